-- A whole number of a list, as a float. Definitions only.
use Rattle.std.specs.Prelude.{List, ℕ, pos, get_or, Float}
use Rattle.std.specs.Float.{binary32}
use Rattle.std.specs.Float.Ieee.{of_int}

-- the number at place n, as a float
abbrev pub amount : List ℕ → ℕ → Float
amount y n = of_int binary32 (pos (get_or y n 0))
