-- Shaping: each spectrum line of band b is multiplied once by linear gain b. Definitions only.
use Rattle.std.specs.Prelude.{◌≡◌, Bool, ◌&&◌, cond, List, ℕ, zero, suc, ◌+◌, ◌≤◌, ◌<◌, leb, ltb, length, get_or, Float}
use Rattle.std.specs.Float.{nan, binary32}
use Rattle.std.specs.Float.Ieee.{mul}
use Rattle.list_laws.specs.ListOf.{list_of}
use Rattle.band_index_tables.specs.Bands.{limits_of, bands_of, last_limit}

-- line i is one of those from a first up to below an end
abbrev pub inside : ℕ → ℕ → ℕ → Bool
inside first end i = leb first i && ltb i end

-- the lines from a first up to below an end are multiplied once by the gain, and the others stay
abbrev pub scaled_part : ℕ → ℕ → Float → List Float → List Float
scaled_part first end gain lines = list_of (length lines) (λ i. cond (inside first end i) (mul binary32 (get_or lines i nan) gain) (get_or lines i nan))

-- band b is the lines from limit b up to below limit b + 1
abbrev pub in_band : List ℕ → ℕ → ℕ → Bool
in_band limits b i = inside (get_or limits b 0) (get_or limits (b + 1) 0) i

-- a line times the gain of its band, among the first so many bands; where none of them holds it, it stays
unfoldable pub shaped_line : List ℕ → List Float → ℕ → ℕ → Float → Float
shaped_line limits gains zero i line = line
shaped_line limits gains (suc b) i line = cond (in_band limits b i) (mul binary32 line (get_or gains b nan)) (shaped_line limits gains b i line)

-- all lines: those past the last band limit stay
abbrev pub shaped_of : ℕ → Bool → List Float → List Float → List Float
shaped_of rate ten gains lines = list_of (length lines) (λ i. shaped_line (limits_of rate ten) gains (bands_of rate ten) i (get_or lines i nan))

-- what is shaped: a rate index, a gain for each band, and no fewer lines than the last band limit
pub record Shapeable (rate : ℕ) (ten : Bool) (gains lines : List Float) : Type 0 where
  pub rate_below : rate < 5
  pub gain_count : length gains ≡ bands_of rate ten
  pub line_count : last_limit rate ten ≤ length lines
