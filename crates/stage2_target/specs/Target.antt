-- The target of stage 2 and its absolute values. Definitions only.
use Rattle.std.specs.Prelude.{List, ℕ, get_or, Float}
use Rattle.std.specs.Float.{nan, binary32}
use Rattle.std.specs.Float.Ieee.{mul}
use Rattle.float_laws.specs.Absolute.{abs_of}
use Rattle.float_laws.specs.Running.{sum_to}
use Rattle.list_laws.specs.ListOf.{list_of}
use Rattle.sns_tables.specs.Rotation.{d_at}

-- The target is t[n] = sum over rows, from 0.0, of residual[row] times D[row][n].
unfoldable pub target_at : List Float → ℕ → Float
target_at residual n = sum_to (λ row. mul binary32 (get_or residual row nan) (d_at row n)) 16

unfoldable pub target_of : List Float → List Float
target_of residual = list_of 16 (target_at residual)

-- Let a be its absolute values.
unfoldable pub absolutes_of : List Float → List Float
absolutes_of t = list_of 16 (λ n. abs_of (get_or t n nan))
