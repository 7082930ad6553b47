-- The loop is the running sum.
use mathlib.Core.Path.{◌≡◌}
use lib.ListN.{get_or}
use lib.Ieee.{nan}
use Rattle.float_laws.specs.Running.{sum_to}
use Rattle.projection.proofs.sum.Given as goal

abbrev pub invariant-loop-x : goal.invariant-loop-x
invariant-loop-x l = l.s ≡ sum_to (λ n. get_or l.abs_x n nan) l.x-index
