-- The size of a float, compared with a fraction a / c of whole numbers, c above 0. Definitions only.
use Rattle.std.specs.Prelude.{ℕ, ◌*◌, ◌≤◌, Bool, true, false, leb, eqb, Float}
use Rattle.std.specs.Float.{nan, inf, fin, Format}
use Rattle.std.specs.Float.Ieee.{up, down, round}

-- x is finite, and |x| ≤ a / c
abbrev pub Within : Float → ℕ → ℕ → Type 0
Within nan a c = ⊥
Within (inf s) a c = ⊥
Within (fin s m e) a c = m * up e * c ≤ a * down e

-- the same as a test, for a table
abbrev pub withinb : ℕ → ℕ → Float → Bool
withinb a c nan = false
withinb a c (inf s) = false
withinb a c (fin s m e) = leb (m * up e * c) (a * down e)

-- x is finite, its sign is plus, and a / c ≤ x
abbrev pub AtLeast : Float → ℕ → ℕ → Type 0
AtLeast nan a c = ⊥
AtLeast (inf s) a c = ⊥
AtLeast (fin true m e) a c = ⊥
AtLeast (fin false m e) a c = a * down e ≤ m * up e * c

-- the same as a test, for a table
abbrev pub at_leastb : ℕ → ℕ → Float → Bool
at_leastb a c nan = false
at_leastb a c (inf s) = false
at_leastb a c (fin true m e) = false
at_leastb a c (fin false m e) = leb (a * down e) (m * up e * c)

-- |x| = a / c
abbrev pub sized : Float → ℕ → ℕ → Bool
sized nan a c = false
sized (inf s) a c = false
sized (fin s m e) a c = eqb (m * up e * c) (a * down e)

-- the format holds a / c
abbrev pub exact : Format → ℕ → ℕ → Bool
exact f a c = sized (round f false a c) a c
