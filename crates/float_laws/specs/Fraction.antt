-- A finite float that is not below zero as a fraction of whole numbers. Definitions only.
use Rattle.std.specs.Prelude.{Bool, false, not, ℕ, ◌*◌, Float}
use Rattle.std.specs.Float.{nan, inf, fin}
use Rattle.std.specs.Float.Ieee.{up, down}

-- a finite value that is not below zero is numerator / denominator
abbrev pub numerator : Float → ℕ
numerator nan = 0
numerator (inf s) = 0
numerator (fin s m e) = m * up e

abbrev pub denominator : Float → ℕ
denominator nan = 1
denominator (inf s) = 1
denominator (fin s m e) = down e

abbrev pub positive : Float → Bool
positive nan = false
positive (inf s) = false
positive (fin s m e) = not s
