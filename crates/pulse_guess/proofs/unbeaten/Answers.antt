-- The loop is the count, a place at a time.
use Rattle.std.proofs.Common.{not, refl, ap, arith, rules}
use Rattle.pulse_guess.specs.Lanes.{unbeaten_by, count_to}
use Rattle.pulse_guess.proofs.Counted.{count_yes, count_no}
use Rattle.pulse_guess.proofs.unbeaten.Goals as goal
use Rattle.pulse_guess.proofs.unbeaten.Goals.{then-not-c-n, else-not-c-n}

pub loop-n-init : goal.loop-n-init
unfolding count_to
loop-n-init c = (refl, search rules)

pub loop-n-preserved : goal.loop-n-preserved
unfolding unbeaten_by
loop-n-preserved c =
    let l = c.loop-n in
    elim c.if-not-c-n.branch [
      | then-not-c-n w ↦ rw w.count-is (count_yes _ _ _ l.invariant.0 (ap not w.if-not-c-n.true), omega arith)
      | else-not-c-n w ↦ rw w.count-is (count_no _ _ _ l.invariant.0 (ap not w.if-not-c-n.false), omega arith)
    ]
