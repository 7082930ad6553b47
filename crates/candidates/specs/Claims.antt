-- What is shown of the candidates and of the choice. Definitions only; the proofs are in proofs/Claims and proofs/Choices.
use Rattle.std.specs.Prelude.{◌≡◌, not, List, [], ℕ, ◌<◌, T, ℤ, get_or, Float}
use Rattle.std.specs.Float.Ieee.{is_nan}
use Rattle.float_laws.specs.Bounded.{AllFinite, Bounded}
use Rattle.float_laws.specs.Least.{FirstLeast}
use Rattle.sns_tables.specs.Gains.{gains_of}
use Rattle.pulse_length.specs.Length.{Sixteen}
use Rattle.candidates.specs.declared.Choice.{Choice}
use Rattle.candidates.specs.Candidate.{candidate_of}
use Rattle.candidates.specs.Scan.{choices, choice_at, distortion_at, winner_of}

-- the choices are 18 in all
abbrev pub InAll : Type 0
InAll = choices ≡ 18

-- a shape with one of its gains is among them
pub record Tried (shape gain : ℕ) : Type 0 where
  pub choice : ℕ
  pub below : choice < choices
  pub is : ◌≡◌ {A = Choice} (choice_at choice) (record { shape = shape; gain = gain })

-- and that is each shape with each gain that the tables hold, the last of its row too
abbrev pub AllTried : Type 0
AllTried = (shape gain : ℕ) → shape < 4 → gain < gains_of shape → Tried shape gain

-- no place of a candidate is over 1 in size
abbrev pub Units : Type 0
Units = (y : List ℤ) → Sixteen y → Bounded 16 1 (candidate_of y)

-- sixteen finite places, and four candidates
pub record Comparable (t : List Float) (q : List (List Float)) : Type 0 where
  pub target : AllFinite 16 t
  pub units : (s : ℕ) → s < 4 → Bounded 16 1 (get_or q s [])

-- no compared distortion is NaN, however large the target is
abbrev pub NoDistortionNan : Type 0
NoDistortionNan = (t : List Float) (q : List (List Float)) → Comparable t q → (i : ℕ) → i < choices → T (not (is_nan (distortion_at t q i)))

-- the winner is the first of the scanned choices with the least computed distortion: none is smaller, and each earlier one is larger
abbrev pub WinnerFirst : Type 0
WinnerFirst = (t : List Float) (q : List (List Float)) → Comparable t q → FirstLeast (distortion_at t q) choices (winner_of t q)

-- and no other choice is
abbrev pub WinnerOnly : Type 0
WinnerOnly = (t : List Float) (q : List (List Float)) → Comparable t q → (i : ℕ) → FirstLeast (distortion_at t q) choices i → i ≡ winner_of t q
