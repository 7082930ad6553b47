-- What is shown of the shapes. Definitions only; the proofs are in proofs/Claims, proofs/Held, proofs/Corner and proofs/Sized.
use Rattle.std.specs.Prelude.{◌≡◌, List, [], ◌∷◌, ℕ, ◌<◌, T, pos, negsuc, Float}
use Rattle.std.specs.Float.{binary32}
use Rattle.std.specs.Float.Ieee.{of_int, mul}
use Rattle.float_laws.specs.Bounded.{Bounded}
use Rattle.float_laws.specs.Kind.{finite}
use Rattle.float_laws.specs.Literal.{nought, squared}
use Rattle.list_laws.specs.ListOf.{list_of}
use Rattle.pulse_search.specs.Pulse.{pair_at, Search, start, more, missing, up_to, total_to}
use Rattle.pulse_search.specs.Claims.{Belongs, Held}
use Rattle.projection.specs.Projection.{zeros, projection}
use Rattle.shape_search.specs.Shape.{shape3, shape2, lowered, shape1, shape_pulses}

-- each shape's pulses add up to exactly its count, for every a: ten and one, ten, eight, six
abbrev pub Totals : Type 0
Totals = (a : List Float) → list_of 4 (λ s. total_to (shape_pulses a s) 16) ≡ 11 ∷ 10 ∷ 8 ∷ 6 ∷ []

-- of shapes 0 and 1, ten are on places 0 to 9
abbrev pub LowTotals : Type 0
LowTotals = (a : List Float) (s : ℕ) → s < 2 → total_to (shape_pulses a s) 10 ≡ 10

-- what is said of k single pulses over places 0 to last from s, of each of the three searches
pub record Each (P : ℕ → ℕ → Search → Type 0) (a : List Float) : Type 0 where
  pub three : P 15 (missing 15 6 (projection a)) (projection a)
  pub two : P 15 (missing 15 8 (shape3 a)) (shape3 a)
  pub one : P 9 (missing 9 10 (lowered a (shape2 a))) (lowered a (shape2 a))

-- From its start on and after every pulse of every search, the record belongs to the pulses placed: for every a.
abbrev pub SearchesHeld : Type 0
SearchesHeld = (a : List Float) → Each (Held a) a

-- So each shape that is searched ends with the pair of its own pulses.
abbrev pub ShapesHeld : Type 0
ShapesHeld = (a : List Float) → Belongs (shape3 a) × (Belongs (shape2 a) × Belongs (shape1 a))

-- Shapes 3 and 2 are one search from the projection on: nothing is lost where one shape hands over to the next.
abbrev pub OneSearch : Type 0
OneSearch = (a : List Float) → shape2 a ≡ up_to a 15 8 (projection a)

-- sixteen whole targets for which shapes 3 and 2 put all eight pulses past place 9
abbrev pub high_targets : List Float
high_targets =
    let w : ℕ → Float = λ n. of_int binary32 (pos n) in
    w 0 ∷ w 0 ∷ w 0 ∷ w 0 ∷ w 0 ∷ w 0 ∷ w 0 ∷ w 0 ∷ w 0 ∷ w 0 ∷ w 1647114 ∷ w 3804662 ∷ w 0 ∷ w 4169833 ∷ w 0 ∷ w 3947248 ∷ []

-- A correlation may be below zero: with every pulse dropped the energy is 0 again, and what the subtractions leave of a rounded sum is -1.0.
abbrev pub RoundingLeft : Type 0
RoundingLeft = lowered high_targets (shape2 high_targets) ≡ start zeros (record { correlation = of_int binary32 (negsuc 0); energy = nought })

-- while k single pulses are sought over places 0 to last, every product that is compared is finite
abbrev pub Compares : List Float → ℕ → ℕ → Search → Type 0
Compares a last k s =
    (i : ℕ) → i < k → (n m : ℕ) → n < 16 → m < 16
    → T (finite (mul binary32 (squared (pair_at a (more a last i s).pulses (more a last i s).pair n).correlation) (pair_at a (more a last i s).pulses (more a last i s).pair m).energy))

-- in the three searches
abbrev pub ComparesFinite : List Float → Type 0
ComparesFinite a = Each (Compares a) a

-- no compared value is NaN or infinite
abbrev pub SearchesFinite : Type 0
SearchesFinite = (a : List Float) → Bounded 16 16384 a → ComparesFinite a
