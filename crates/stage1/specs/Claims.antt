-- What is claimed of stage 1. Each claim is proved in proofs/, under its name in small letters. Definitions only.
use Rattle.std.specs.Prelude.{◌≡◌, not, List, [], ◌∷◌, ℕ, ◌+◌, ◌^◌, ◌≤◌, ◌<◌, T, get_or, Float}
use Rattle.std.specs.Float.{nan, binary32}
use Rattle.std.specs.Float.Ieee.{is_nan, sub}
use Rattle.float_laws.specs.Decimal.{plus, minus}
use Rattle.float_laws.specs.Bounded.{AllFinite, Bounded}
use Rattle.float_laws.specs.Least.{FirstLeast}
use Rattle.stage1.specs.Stage1.{low_distance, high_distance, low_row, high_row, codes, residual}

-- with sixteen finite factors no compared distance is NaN, however large they are
abbrev pub NoDistanceNan : Type 0
NoDistanceNan = (x : List Float) → AllFinite 16 x → (row : ℕ) → row < 32 → T (not (is_nan (low_distance x row))) × T (not (is_nan (high_distance x row)))

-- each row is the first of 32 with the least computed distance: none is smaller, and each earlier one is larger
abbrev pub LowFirst : Type 0
LowFirst = (x : List Float) → AllFinite 16 x → FirstLeast (low_distance x) 32 (low_row x)

abbrev pub HighFirst : Type 0
HighFirst = (x : List Float) → AllFinite 16 x → FirstLeast (high_distance x) 32 (high_row x)

-- and no other row is
abbrev pub LowOnly : Type 0
LowOnly = (x : List Float) → AllFinite 16 x → (row : ℕ) → FirstLeast (low_distance x) 32 row → row ≡ low_row x

abbrev pub HighOnly : Type 0
HighOnly = (x : List Float) → AllFinite 16 x → (row : ℕ) → FirstLeast (high_distance x) 32 row → row ≡ high_row x

-- factors within a limit leave residuals within the limit and 5, for any limit that leaves room for that in an f32's digits
abbrev pub ResidualWithin : Type 0
ResidualWithin = (limit : ℕ) → limit + 5 ≤ 2 ^ 24 → (x : List Float) → Bounded 16 limit x → Bounded 16 (limit + 5) (residual x)

-- residual = factor minus code, place by place
abbrev pub ResidualIs : Type 0
ResidualIs = (x : List Float) (n : ℕ) → n < 16 → get_or (residual x) n nan ≡ sub binary32 (get_or x n nan) (get_or (codes x) n nan)

-- factors for which two rows of the high half are at the least distance
unfoldable pub tied : List Float
tied =
    plus 0 0 ∷ plus 0 0 ∷ plus 0 0 ∷ plus 0 0 ∷ plus 0 0 ∷ plus 0 0 ∷ plus 0 0 ∷ plus 0 0 ∷
    minus 9 0 ∷ plus 36 0 ∷ minus 46 0 ∷ plus 58 0 ∷ minus 6 0 ∷ minus 32 0 ∷ plus 21 0 ∷ minus 15 0 ∷ []

-- the first of them is taken
abbrev pub Tie : Type 0
Tie = (high_distance tied 10 ≡ high_distance tied 29) × (high_row tied ≡ 10)
