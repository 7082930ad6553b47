-- Stage 1 of the quantizer, over the sixteen factors x. Definitions only.
use Rattle.std.specs.Prelude.{List, ℕ, ◌+◌, get_or, Float}
use Rattle.std.specs.Float.{nan, binary32}
use Rattle.std.specs.Float.Ieee.{sub}
use Rattle.float_laws.specs.Literal.{squared}
use Rattle.float_laws.specs.Running.{sum_to}
use Rattle.float_laws.specs.Scan.{least_to}
use Rattle.list_laws.specs.ListOf.{list_of}
use Rattle.sns_tables.specs.Codebooks.{lfcb_rows, hfcb_rows, code_at}
use Rattle.sns_tables.specs.Codes.{code_of, codes_of}
use Rattle.stage1.specs.declared.SnsStage1Result.{SnsStage1Result}

-- for a row, add the squares of factor minus code over 8 places, from 0.0, ascending
unfoldable pub distance : (ℕ → Float) → (ℕ → Float) → Float
distance factor code = sum_to (λ place. squared (sub binary32 (factor place) (code place))) 8

-- the factors of a half, by place: the low half starts at factor 0, the high half at factor 8
abbrev pub half : List Float → ℕ → ℕ → Float
half x from place = get_or x (from + place) nan

-- the low half and a row of LFCB
abbrev pub low_distance : List Float → ℕ → Float
low_distance x row = distance (half x 0) (code_at lfcb_rows row)

-- the high half and a row of HFCB
abbrev pub high_distance : List Float → ℕ → Float
high_distance x row = distance (half x 8) (code_at hfcb_rows row)

-- of rows 0 to 31, the first strictly smallest wins
unfoldable pub low_row : List Float → ℕ
low_row x = least_to (low_distance x) 31

unfoldable pub high_row : List Float → ℕ
high_row x = least_to (high_distance x) 31

abbrev pub rows_of : List Float → SnsStage1Result
rows_of x = record { ind_lf = low_row x; ind_hf = high_row x }

-- the codes of both rows
abbrev pub codes : List Float → List Float
codes x = codes_of (low_row x) (high_row x)

-- residual = factor minus code
abbrev pub residual : List Float → List Float
residual x = list_of 16 (λ n. sub binary32 (get_or x n nan) (code_of (low_row x) (high_row x) n))
