-- One turn of the scan is one turn of the loop: the next value takes the place of the least, or does not.
use Rattle.std.proofs.Common.{◌≡◌, ◌+◌, ◌-◌, refl, arith}
use Rattle.float_laws.proofs.Scan.{least_none, least_move, least_keep}
use Rattle.first_least.proofs.first_least.Goals as goal
use Rattle.first_least.proofs.first_least.Goals.{then-values-i, else-values-i}

pub loop-i-init : goal.loop-i-init
loop-i-init g c = (least_none _, refl)

pub loop-i-preserved : goal.loop-i-preserved
loop-i-preserved g c =
    let i = c.loop-i.i in
    let inv = c.loop-i.invariant in
    let back : i - 1 + 1 ≡ i = omega (arith, c.loop-i.auto.i) in
    let on : i + 1 - 1 ≡ i = omega arith in
    elim c.if-values-i.branch [
      | then-values-i w ↦ rw (w.least-is, w.smallest-is, on) (rw back at (least_move _ _ _ _ _ inv.0 (rw back refl) inv.1 w.if-values-i.true), refl)
      | else-values-i w ↦ rw (w.least-is, w.smallest-is, on) (rw back at (least_keep _ _ _ _ _ inv.0 (rw back refl) inv.1 w.if-values-i.false), inv.1)
    ]
