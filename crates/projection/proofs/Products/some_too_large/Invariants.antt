-- The test of each place.
use mathlib.Core.Path.{◌≡◌}
use Rattle.list_laws.specs.Some.{some_below}
use Rattle.projection.proofs.Projection.{too_large}
use Rattle.projection.proofs.Products.some_too_large.Given as goal

abbrev pub invariant-loop-x : goal.invariant-loop-x
invariant-loop-x l = l.found ≡ some_below l.x-index (too_large l.x-items)
