-- Sixteen pulses as floats, and their length. Definitions only.
use Rattle.std.specs.Prelude.{List, [], ◌∷◌, map, ℕ, ◌+◌, ◌*◌, ◌≤◌, ◌<◌, ◌≡◌, ℤ, pos, nat_abs, length, get_or, Float}
use Rattle.std.specs.Float.{binary32}
use Rattle.std.specs.Float.Ieee.{of_int}
use Rattle.roots.specs.Root.{root_of}

-- the squared length of pulses: the sum of their squares
unfoldable pub squared_length : List ℤ → ℕ
squared_length [] = 0
squared_length (y ∷ ys) = nat_abs y * nat_abs y + squared_length ys

-- their length r
abbrev pub length_of : List ℤ → Float
length_of y = root_of (squared_length y)

-- what the pulses of a shape are like: sixteen, each at most 10 in size, with a squared length from 1 to 101
pub record Sixteen (y : List ℤ) : Type 0 where
  pub places : length y ≡ 16
  pub small : (k : ℕ) → k < 16 → nat_abs (get_or y k (pos 0)) ≤ 10
  pub above : 1 ≤ squared_length y
  pub below : squared_length y ≤ 101

-- the pulses as floats
abbrev pub floats_of : List ℤ → List Float
floats_of y = map (of_int binary32) y
