-- The scan upward from place 10.
use mathlib.Core.Path.{◌≡◌, refl, ◌∙◌}
use native.Mathlib.Omega.{arith}
use borrow.Author.Rules.{rules}
use Rattle.float_laws.specs.Scan.{scan_to}
use Rattle.shape_search.specs.Shape.{largest_to}
use Rattle.shape_search.proofs.Shapes.{largest_move, largest_keep}
use Rattle.shape_search.proofs.largest_high.Goals as goal
use Rattle.shape_search.proofs.largest_high.Goals.{then-abs_x-n_best, else-abs_x-n_best}

pub loop-n-init : goal.loop-n-init
unfolding largest_to scan_to
loop-n-init c = (refl, search rules)

pub loop-n-preserved : goal.loop-n-preserved
loop-n-preserved c =
    let l = c.loop-n in
    elim c.if-abs_x-n_best.branch [
      | then-abs_x-n_best w ↦ (w.n_best-is ∙ largest_move _ _ _ (omega arith) l.invariant.0 w.if-abs_x-n_best.true, omega (arith, w.n_best-is))
      | else-abs_x-n_best w ↦ (w.n_best-is ∙ largest_keep _ _ _ (omega arith) l.invariant.0 w.if-abs_x-n_best.false, omega (arith, w.n_best-is))
    ]

pub returns : goal.returns
returns c =
    let e : c.loop-n.n ≡ 16 = omega arith in
    rw e at c.loop-n.invariant.0
