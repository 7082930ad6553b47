-- Ten places are stored over zeros.
use mathlib.Core.Path.{◌≡◌, refl}
use native.Mathlib.Omega.{arith}
use Rattle.list_laws.specs.ListOf.{list_of}
use Rattle.list_laws.proofs.Fill.{over, over_none, over_more}
use Rattle.shape_search.specs.Shape.{low_of}
use Rattle.shape_search.proofs.low_places.Goals as goal

pub loop-n-init : goal.loop-n-init
loop-n-init c = over_none _ _

pub loop-n-preserved : goal.loop-n-preserved
loop-n-preserved c = over_more _ _ _ _ _ c.loop-n.invariant refl

pub returns : goal.returns
unfolding low_of list_of over
returns c =
    let e : c.loop-n.n ≡ 10 = omega arith in
    rw e at c.loop-n.invariant
