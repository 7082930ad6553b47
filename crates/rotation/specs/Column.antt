-- The sum of x times a column of d. Definitions only.
use Rattle.std.specs.Prelude.{List, [], ℕ, get_or, Float}
use Rattle.std.specs.Float.{nan, binary32}
use Rattle.std.specs.Float.Ieee.{mul}
use Rattle.float_laws.specs.Running.{sum_to}

-- the sum over rows, from 0.0, of x[row] times d[row][n]
unfoldable pub column_at : List (List Float) → List Float → ℕ → Float
column_at d x n = sum_to (λ row. mul binary32 (get_or x row nan) (get_or (get_or d row []) n nan)) 16
