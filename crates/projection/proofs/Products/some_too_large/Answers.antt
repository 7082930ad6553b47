-- The test of each place, and then both causes at once.
use mathlib.Core.Path.{◌≡◌, refl, ◌∙◌}
use native.Mathlib.Omega.{arith}
use Rattle.list_laws.specs.Some.{some_below}
use Rattle.list_laws.proofs.Some.{some_more, some_same}
use Rattle.projection.proofs.Projection.{too_large_is, too_large_yes, too_large_no}
use Rattle.projection.proofs.Products.some_too_large.Goals as goal
use Rattle.projection.proofs.Products.some_too_large.Goals.{then-not-x-self, else-not-x-self}

pub loop-x-init : goal.loop-x-init
unfolding some_below
loop-x-init c = refl

pub loop-x-preserved : goal.loop-x-preserved
loop-x-preserved c =
    let l = c.loop-x in
    let f = c.args.self.now.projects in
    elim c.if-not-x-self.branch [
      | then-not-x-self w ↦ w.found-is ∙ some_more l.x-index _ (too_large_yes _ _ f l.x-index w.if-not-x-self.true)
      | else-not-x-self w ↦ some_same l.x-index _ _ (w.found-is ∙ l.invariant) (too_large_no _ _ f l.x-index w.if-not-x-self.false)
    ]

pub returns : goal.returns
returns c =
    let e : c.loop-x.x-index ≡ 16 = omega arith in
    (rw e at c.loop-x.invariant) ∙ too_large_is _ c.args.self.now.absolute
