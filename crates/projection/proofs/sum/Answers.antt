-- The loop is the running sum.
use mathlib.Core.Path.{◌≡◌, refl}
use native.Mathlib.Omega.{arith}
use Rattle.float_laws.proofs.Running.{sum_none, sum_more}
use Rattle.projection.proofs.sum.Goals as goal

pub loop-x-init : goal.loop-x-init
loop-x-init c = sum_none _

pub loop-x-preserved : goal.loop-x-preserved
loop-x-preserved c = sum_more _ _ _ _ c.loop-x.invariant refl

pub returns : goal.returns
returns c =
    let e : c.loop-x.x-index ≡ 16 = omega arith in
    rw e at c.loop-x.invariant
