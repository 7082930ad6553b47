-- A decimal literal of a document, rounded to f32 once. Definitions only.
use Rattle.std.specs.Prelude.{ℕ, ◌^◌, true, false, Float}
use Rattle.std.specs.Float.{binary32}
use Rattle.std.specs.Float.Ieee.{round}

-- digits / 10 ^ places
unfoldable pub plus : ℕ → ℕ → Float
unfolding round
plus digits places = round binary32 false digits (10 ^ places)

-- -(digits / 10 ^ places)
unfoldable pub minus : ℕ → ℕ → Float
unfolding round
minus digits places = round binary32 true digits (10 ^ places)
