-- The bands from 0 on hold what they should: two before the loop, four a turn, two after it.
use mathlib.Core.Path.{◌≡◌, refl}
use native.Mathlib.Omega.{arith}
use lib.Ieee.{of_bits}
use Rattle.list_laws.proofs.Range.{holds_all}
use Rattle.interpolation.specs.Bands.{eighths}
use Rattle.interpolation.proofs.Laws.{first_two, next_four, last_two}
use Rattle.interpolation.proofs.spread.Goals as goal

pub loop-n-init : goal.loop-n-init
loop-n-init c = first_two _ _ refl refl refl

pub loop-n-preserved : goal.loop-n-preserved
unfolding eighths of_bits
loop-n-preserved c = next_four _ _ c.loop-n.n c.loop-n-test.true c.loop-n.invariant

pub returns : goal.returns
unfolding eighths of_bits
returns c =
    let e : c.loop-n.n ≡ 15 = omega arith in
    holds_all _ _ _ _ (last_two _ _ (rw e at c.loop-n.invariant))
