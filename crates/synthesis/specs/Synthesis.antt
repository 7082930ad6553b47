-- Synthesis, one formula for both ends: a code, and a sum over columns of pulses times D, multiplied by the gain divided by the pulses' length.
-- Definitions only.
use Rattle.std.specs.Prelude.{List, ℕ, ℤ, get_or, Float}
use Rattle.std.specs.Float.{nan, binary32}
use Rattle.std.specs.Float.Ieee.{add, mul, div}
use Rattle.float_laws.specs.Running.{sum_to}
use Rattle.list_laws.specs.ListOf.{list_of}
use Rattle.sns_tables.specs.Codes.{codes_of}
use Rattle.sns_tables.specs.Rotation.{d_at}
use Rattle.sns_tables.specs.Gains.{gain_at}
use Rattle.frame_fields.specs.Accepted.{InTables}
use Rattle.shape_numbers.specs.Pulses.{Shaped}
use Rattle.pulse_length.specs.Length.{length_of, floats_of}

-- what the decoder synthesises: rows, shape and gain within their tables, and pulses of the shape
pub record Synthesisable (low high shape gain : ℕ) (y : List ℤ) : Type 0 where
  pub tables : InTables low high shape gain
  pub shaped : Shaped shape y

-- ---- gain g divided by r, the length of the pulses
abbrev pub scale_of : Float → List ℤ → Float
scale_of g y = div binary32 g (length_of y)

-- ---- the factors
-- the sum over columns, from 0.0, of x times D[n][column]: the first so many columns
unfoldable pub columns_to : List Float → ℕ → ℕ → Float
columns_to x n columns = sum_to (λ column. mul binary32 (get_or x column nan) (d_at n column)) columns

-- code n + scale times the sum over columns of y times D[n][column]
abbrev pub factor_of : List Float → List ℤ → Float → ℕ → Float
factor_of code y scale n = add binary32 (get_or code n nan) (mul binary32 scale (columns_to (floats_of y) n 16))

-- THE FORMULA OF BOTH ENDS: factor n = code n + (g/r) times the sum over columns of y times D[n][column], for sixteen codes
abbrev pub from_codes : List Float → ℕ → ℕ → List ℤ → List Float
from_codes code shape gain y = list_of 16 (factor_of code y (scale_of (gain_at shape gain) y))

-- the decoder's codes are those of two rows
abbrev pub factors_of : ℕ → ℕ → ℕ → ℕ → List ℤ → List Float
factors_of low high shape gain y = from_codes (codes_of low high) shape gain y
