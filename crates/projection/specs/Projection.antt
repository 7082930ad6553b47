-- Shape 3's start: the projection, and when it is dropped. Definitions only.
use Rattle.std.specs.Prelude.{◌≡◌, Bool, not, ◌||◌, cond, List, ℕ, zero, suc, ◌<◌, T, ltb, pos, get_or, Float}
use Rattle.std.specs.Float.{nan, binary32}
use Rattle.std.specs.Float.Ieee.{of_int, add, mul, div, lt, le}
use Rattle.float_laws.specs.Absolute.{abs_of}
use Rattle.float_laws.specs.Kind.{finite}
use Rattle.float_laws.specs.Literal.{nought, five, seven}
use Rattle.float_laws.specs.Floor.{floor_of}
use Rattle.float_laws.specs.Running.{sum_to}
use Rattle.list_laws.specs.ListOf.{list_of}
use Rattle.list_laws.specs.Some.{some_below}
use Rattle.pulse_search.specs.declared.SearchRecord.{SearchRecord}
use Rattle.pulse_search.specs.Pulse.{Search, start, total_to}
use Rattle.projection.specs.declared.Start.{Start}

-- each place of a is an absolute value
abbrev pub Absolutes : List Float → Type 0
Absolutes a = (n : ℕ) → n < 16 → abs_of (get_or a n nan) ≡ get_or a n nan

-- project each a by (5 / sum of a)
unfoldable pub projection_factor : List Float → Float
projection_factor a = div binary32 five (sum_to (λ n. get_or a n nan) 16)

unfoldable pub product_at : List Float → ℕ → Float
product_at a n = mul binary32 (get_or a n nan) (projection_factor a)

-- rounded down
unfoldable pub projected_of : List Float → List ℕ
projected_of a = list_of 16 (λ n. floor_of (product_at a n))

-- a place's two terms for correlation (pulses times a) and energy (pulses squared)
unfoldable pub terms_of : ℕ → Float → SearchRecord
terms_of w x = record { correlation = mul binary32 (of_int binary32 (pos w)) x; energy = mul binary32 (of_int binary32 (pos w)) (of_int binary32 (pos w)) }

-- they are added to a pair, or subtracted from it, where the pulses are not zero
unfoldable pub with_terms : (Float → Float → Float) → SearchRecord → ℕ → Float → SearchRecord
with_terms op r zero x = r
with_terms op r (suc w) x = record {
  correlation = op r.correlation (terms_of (suc w) x).correlation;
  energy = op r.energy (terms_of (suc w) x).energy;
}

abbrev pub joined : SearchRecord → ℕ → Float → SearchRecord
joined r w x = with_terms (add binary32) r w x

abbrev pub none : SearchRecord
none = record { correlation = nought; energy = nought }

-- correlation and energy add up over pulses that are not zero: the first n places
unfoldable pub joined_to : List Float → List ℕ → ℕ → SearchRecord
joined_to a y zero = none
joined_to a y (suc n) = joined (joined_to a y n) (get_or y n 0) (get_or a n nan)

-- a projected product that isn't finite
unfoldable pub some_not_finite : List Float → Bool
some_not_finite a = some_below 16 (λ n. not (finite (product_at a n)))

-- or is 7 or more
unfoldable pub some_seven : List Float → Bool
some_seven a = some_below 16 (λ n. le seven (product_at a n))

-- or a projected total over 6
unfoldable pub total_over_six : List Float → Bool
total_over_six a = ltb 6 (total_to (projected_of a) 16)

-- no product is as large as 7
abbrev pub AllBelowSeven : List Float → Type 0
AllBelowSeven a = (n : ℕ) → n < 16 → T (lt (product_at a n) seven)

abbrev pub zeros : List ℕ
zeros = list_of 16 (λ n. 0)

-- each of the three drops the projection
abbrev pub is_dropped : List Float → Bool
is_dropped a = (some_not_finite a || some_seven a) || total_over_six a

-- the projected pulses with their pair
abbrev pub whole : List Float → Search
whole a = start (projected_of a) (joined_to a (projected_of a) 16)

-- dropped: no pulses, correlation and energy 0
abbrev pub nothing : Search
nothing = start zeros none

unfoldable pub projection : List Float → Search
projection a = cond (is_dropped a) nothing (whole a)

-- as the code holds it: the pulses, how many there are, and their pair
abbrev pub begun_of : Search → Start
begun_of s = record { y = s.pulses; k = total_to s.pulses 16; pair = s.pair }
