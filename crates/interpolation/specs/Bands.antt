-- Interpolation: sixteen factors into 64 bands, or 60. Definitions only.
use Rattle.std.specs.Prelude.{Bool, false, ◌||◌, cond, List, ℕ, zero, suc, ◌+◌, ◌*◌, ◌/◌, ◌%◌, eqb, ltb, get_or, Float}
use Rattle.std.specs.Float.{nan, binary32}
use Rattle.std.specs.Float.Ieee.{round, add, sub, mul, div}
use Rattle.float_laws.specs.Decimal.{plus}
use Rattle.list_laws.specs.ListOf.{list_of}

-- the limit of a factor that interpolation is given: 64.0
unfoldable pub band_limit : Float
band_limit = plus 64 0

-- there are 60 bands or 64
abbrev pub count_ok : ℕ → Bool
count_ok count = eqb count 60 || eqb count 64

abbrev pub factor_at : List Float → ℕ → Float
factor_at factors n = get_or factors n nan

-- n / 8
unfoldable pub eighths : ℕ → Float
unfolding round
eighths n = round binary32 false n 8

-- bands 4n+2 to 4n+5 are factor n plus 1/8, 3/8, 5/8, 7/8 of (factor n+1 minus factor n): the one of these at place j
abbrev pub between : List Float → ℕ → ℕ → Float
between factors n j = add binary32 (factor_at factors n) (mul binary32 (eighths (2 * j + 1)) (sub binary32 (factor_at factors (n + 1)) (factor_at factors n)))

-- bands 62 and 63 are factor 15 plus 1/8 and 3/8 of (factor 15 minus factor 14): the one of these at place j
abbrev pub past : List Float → ℕ → Float
past factors j = add binary32 (factor_at factors 15) (mul binary32 (eighths (2 * j + 1)) (sub binary32 (factor_at factors 15) (factor_at factors 14)))

-- band b of 64: bands 0 and 1 equal factor 0, then four bands each for n from 0 to 14, then bands 62 and 63
unfoldable pub band_of : List Float → ℕ → Float
band_of factors zero = factor_at factors 0
band_of factors (suc zero) = factor_at factors 0
band_of factors (suc (suc i)) = cond (ltb (i / 4) 15) (between factors (i / 4) (i % 4)) (past factors (i % 4))

-- the halved sum (first plus second, then divided by 2)
abbrev pub halved_sum : Float → Float → Float
halved_sum first second = div binary32 (add binary32 first second) (plus 2 0)

-- with 60 bands, bands 0 to 3 become the halved sums of old pairs (0,1), (2,3), (4,5), (6,7), and band i from 4 to 59 becomes old band i+4
unfoldable pub narrow_of : (ℕ → Float) → ℕ → Float
narrow_of old i = cond (ltb i 4) (halved_sum (old (2 * i)) (old (2 * i + 1))) (old (i + 4))

-- all bands, 60 or 64 of them
unfoldable pub interpolated : List Float → ℕ → List Float
interpolated factors count = cond (eqb count 60) (list_of 60 (narrow_of (band_of factors))) (list_of 64 (band_of factors))
