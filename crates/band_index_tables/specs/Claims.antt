-- What is proved of the band limits. The proof is in proofs/Bands.antt.
use Rattle.std.specs.Prelude.{ℕ, ◌<◌, Bool}
use Rattle.band_index_tables.specs.Bands.{Limits}

-- the ten band limit tables start at 0, rise, and have 60 or 64 bands (Bands)
abbrev pub LimitsSound : Type 0
LimitsSound = (rate : ℕ) (ten : Bool) → rate < 5 → Limits rate ten
