-- What is claimed of the shaped lines, band by band. The proofs are in proofs/Claims.antt.
use Rattle.std.specs.Prelude.{◌≡◌, Bool, List, ℕ, ◌+◌, ◌≤◌, ◌<◌, length, get_or, Float}
use Rattle.std.specs.Float.{nan, binary32}
use Rattle.std.specs.Float.Ieee.{mul}
use Rattle.band_index_tables.specs.Bands.{limits_of, bands_of, last_limit}
use Rattle.shaping.specs.Shaping.{Shapeable, shaped_of}

-- each line of band b is the old line times gain b
abbrev pub InBands : Type 0
InBands =
    (rate : ℕ) (ten : Bool) (gains lines : List Float) → Shapeable rate ten gains lines
    → (b i : ℕ) → b < bands_of rate ten → get_or (limits_of rate ten) b 0 ≤ i → i < get_or (limits_of rate ten) (b + 1) 0
    → get_or (shaped_of rate ten gains lines) i nan ≡ mul binary32 (get_or lines i nan) (get_or gains b nan)

-- lines past the last band limit stay
abbrev pub PastStay : Type 0
PastStay =
    (rate : ℕ) (ten : Bool) (gains lines : List Float) → Shapeable rate ten gains lines
    → (i : ℕ) → last_limit rate ten ≤ i → i < length lines → get_or (shaped_of rate ten gains lines) i nan ≡ get_or lines i nan
