-- What is proved of the roots, a line a claim. Definitions only: each is proved in proofs/, in the file that its comment names.
use Rattle.std.specs.Prelude.{ℕ, ◌*◌, ◌≤◌, ℤ, nat_abs}
use Rattle.std.specs.Float.{binary32}
use Rattle.std.specs.Float.Ieee.{of_int, div}
use Rattle.float_laws.specs.Size.{Within}
use Rattle.roots.specs.Root.{Nearest, root_of}

-- no other f32 is nearer to the square root of n (Nearest)
abbrev pub RootNearest : Type 0
RootNearest = (n : ℕ) → 1 ≤ n → n ≤ 101 → Nearest n (root_of n)

-- a place of a pulse vector, divided by the vector's length, is at most 1 in size (Unit)
abbrev pub PlaceUnit : Type 0
PlaceUnit = (n : ℕ) (y : ℤ) → 1 ≤ n → n ≤ 101 → nat_abs y * nat_abs y ≤ n → Within (div binary32 (of_int binary32 y) (root_of n)) 1 1
