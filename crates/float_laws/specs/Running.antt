-- A running sum of f32 terms g 0, g 1, ..: from 0.0 upward, each sum rounded once. Definitions only.
use Rattle.std.specs.Prelude.{ℕ, zero, suc, Float}
use Rattle.std.specs.Float.{binary32}
use Rattle.std.specs.Float.Ieee.{of_bits, add}

-- the first n terms
unfoldable pub sum_to : (ℕ → Float) → ℕ → Float
sum_to g zero = of_bits binary32 0
sum_to g (suc n) = add binary32 (sum_to g n) (g n)
