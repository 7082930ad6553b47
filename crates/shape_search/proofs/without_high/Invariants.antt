-- The loop is the definition, a place at a time.
use mathlib.Core.Path.{◌≡◌}
use Prim.Native.Nat.{◌-◌}
use Rattle.shape_search.specs.Shape.{dropped_to}
use Rattle.shape_search.proofs.without_high.Given as goal

abbrev pub invariant-loop-n : goal.invariant-loop-n
invariant-loop-n l = l.p ≡ dropped_to l.abs_x l.y l.initial.p (l.n - 10)
