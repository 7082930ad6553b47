-- The scan upward from place 10.
use mathlib.Core.Path.{◌≡◌}
use Prim.Native.Nat.{◌≤◌, ◌-◌}
use Rattle.shape_search.specs.Shape.{largest_to}
use Rattle.shape_search.proofs.largest_high.Given as goal

abbrev pub invariant-loop-n : goal.invariant-loop-n
invariant-loop-n l = (l.n_best ≡ largest_to l.abs_x (l.n - 11)) × (l.n_best ≤ 15)
