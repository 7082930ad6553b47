-- The loop is the definition, a place at a time.
use mathlib.Core.Path.{◌≡◌}
use lib.ListN.{length}
use Rattle.projection.specs.Projection.{joined_to}
use Rattle.projection.proofs.pair_of.Given as goal

abbrev pub invariant-loop-x : goal.invariant-loop-x
invariant-loop-x l = l.r ≡ joined_to l.abs_x l.y (length l.yielded)
