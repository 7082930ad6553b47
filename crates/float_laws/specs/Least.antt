-- The first least of n floats d 0, d 1, .. Definitions only.
use Rattle.std.specs.Prelude.{ℕ, ◌<◌, not, T, Float}
use Rattle.std.specs.Float.Ieee.{lt}

-- r is one of the n; every earlier one is larger; none is smaller
pub record FirstLeast (d : ℕ → Float) (n r : ℕ) : Type 0 where
  pub inside : r < n
  pub first : (i : ℕ) → i < r → T (lt (d r) (d i))
  pub least : (i : ℕ) → i < n → T (not (lt (d i) (d r)))
