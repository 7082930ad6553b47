-- The pattern of a float and the float of a pattern, where every NaN is one, and the floats of a record. Definitions only.
use Rattle.std.specs.Prelude.{Float, ℕ, ◌%◌, ◌*◌, List, cond, ltb, is_nan, to_bits, take, drop}
use Rattle.std.specs.Float.{binary32, nan}
use Rattle.std.specs.Float.Ieee.{of_bits}
use Rattle.std.specs.Int.{w32, from_le_bytes}
use Rattle.list_laws.specs.ListOf.{list_of}

-- its 32 bits as a number
abbrev pub pattern_of : Float → ℕ
pattern_of x = cond (is_nan x) 0x7fc0_0000 (to_bits binary32 x)

-- a pattern above that of infinity, but for the sign, is a NaN's
abbrev pub float_at : ℕ → Float
float_at bits = cond (ltb 0x7f80_0000 (bits % 0x8000_0000)) nan (of_bits binary32 bits)

-- word n of bytes, the lowest byte first
abbrev pub word_at : List ℕ → ℕ → ℕ
word_at bytes n = from_le_bytes w32 (take 4 (drop (4 * n) bytes))

-- the sixteen floats of a record
abbrev pub record_of : List ℕ → List Float
record_of bytes = list_of 16 (λ n. float_at (word_at bytes n))
