-- The scan upward, a place at a time: the best so far and its pair.
use Rattle.std.proofs.Common.{◌≡◌, ◌+◌, ◌-◌, sym, ◌∙◌, arith}
use Rattle.pulse_search.proofs.Laws.{best_zero, best_move, best_keep}
use Rattle.pulse_search.proofs.scan_places.Goals as goal
use Rattle.pulse_search.proofs.scan_places.Goals.{then-replaces, else-replaces}

pub loop-n-init : goal.loop-n-init
loop-n-init c = (best_zero _ _ _, c.pair_at-best.ensures)

pub loop-n-preserved : goal.loop-n-preserved
loop-n-preserved c =
    let n = c.loop-n.n in
    let inv = c.loop-n.invariant in
    let before : n ≡ n - 1 + 1 = omega (arith, c.loop-n.auto.n) in
    let after : n + 1 - 1 ≡ n = omega arith in
    elim c.if-replaces.branch [
      | then-replaces w ↦ rw (w.n_best-is, w.best-is, after)
          (best_move _ _ _ _ _ _ before inv.0 _ _ c.pair_at-p.ensures inv.1 (sym c.replaces.ensures ∙ w.if-replaces.true), c.pair_at-p.ensures)
      | else-replaces w ↦ rw (w.n_best-is, w.best-is, after)
          (best_keep _ _ _ _ _ _ before inv.0 _ _ c.pair_at-p.ensures inv.1 (sym c.replaces.ensures ∙ w.if-replaces.false), inv.1)
    ]
