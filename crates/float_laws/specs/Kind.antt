-- Kinds of float. Definitions only.
use Rattle.std.specs.Prelude.{Bool, true, false, not, Float}
use Rattle.std.specs.Float.{nan, inf, fin}

-- a number: no NaN and no infinity
abbrev pub finite : Float → Bool
finite nan = false
finite (inf s) = false
finite (fin s m e) = true

-- no NaN, and its sign is plus: +0, a positive number or +infinity
abbrev pub plain : Float → Bool
plain nan = false
plain (inf s) = not s
plain (fin s m e) = not s
