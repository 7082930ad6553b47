-- The sixteen codes of a low and a high row. Definitions only.
use Rattle.std.specs.Prelude.{cond, List, ℕ, ◌-◌, ltb, Float}
use Rattle.list_laws.specs.ListOf.{list_of}
use Rattle.sns_tables.specs.Codebooks.{lfcb_rows, hfcb_rows, code_at}

-- the code at one of the sixteen places: the low row's eight, then the high row's eight
abbrev pub code_of : ℕ → ℕ → ℕ → Float
code_of low high n = cond (ltb n 8) (code_at lfcb_rows low n) (code_at hfcb_rows high (n - 8))

-- all sixteen
abbrev pub codes_of : ℕ → ℕ → List Float
codes_of low high = list_of 16 (code_of low high)
