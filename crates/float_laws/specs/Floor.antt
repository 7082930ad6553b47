-- Rounding down. Definitions only.
use Rattle.std.specs.Prelude.{ℕ, ◌*◌, ◌/◌, Float}
use Rattle.std.specs.Float.{nan, inf, fin}
use Rattle.std.specs.Float.Ieee.{up, down}

-- the whole number at or below a finite value that is not below zero; no other value is asked for
unfoldable pub floor_of : Float → ℕ
floor_of nan = 0
floor_of (inf s) = 0
floor_of (fin s m e) = m * up e / down e
