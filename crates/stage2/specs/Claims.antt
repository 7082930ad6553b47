-- What is shown of stage 2. Definitions only; the proofs are in proofs/Claims and proofs/Signs.
use Rattle.std.specs.Prelude.{◌≡◌, not, List, [], ℕ, ◌≤◌, ◌<◌, T, get_or, Float}
use Rattle.std.specs.Float.Ieee.{lt}
use Rattle.float_laws.specs.Bounded.{AllFinite, Bounded}
use Rattle.float_laws.specs.Least.{FirstLeast}
use Rattle.sns_tables.specs.Gains.{gains_of, gain_at}
use Rattle.shape_numbers.specs.Pulses.{Shaped, pulses_at}
use Rattle.synthesis.specs.Synthesis.{from_codes}
use Rattle.stage2_target.specs.Target.{target_of, absolutes_of}
use Rattle.shape_search.specs.Claims.{ComparesFinite}
use Rattle.candidates.specs.Candidate.{distortion_of}
use Rattle.candidates.specs.Scan.{choices, choice_at, distortion_at}
use Rattle.candidates.specs.Claims.{Comparable}
use Rattle.stage2.specs.Stage2.{candidates_of, choice_of, signed_for, stage2_of}

-- the chosen shape and gain are those of the first of the scanned candidates with the least computed distortion, for every finite target
pub record FirstChoice (t : List Float) : Type 0 where
  pub choice : ℕ
  pub is : choice_of t ≡ choice_at choice
  pub first : FirstLeast (distortion_at t (candidates_of t)) choices choice

abbrev pub ChoiceFirst : Type 0
ChoiceFirst = (t : List Float) → AllFinite 16 t → FirstChoice t

-- and any choice that is first so is the one chosen
abbrev pub ChoiceOnly : Type 0
ChoiceOnly = (t : List Float) → AllFinite 16 t → (i : ℕ) → FirstLeast (distortion_at t (candidates_of t)) choices i → choice_at i ≡ choice_of t

-- the computed distortion of a shape's candidate under one of the shape's gains
abbrev pub distortion_with : List Float → ℕ → ℕ → Float
distortion_with t shape gain = distortion_of t (get_or (candidates_of t) shape []) (gain_at shape gain)

-- no shape with any gain that the tables hold has a smaller one than the chosen shape with the chosen gain
abbrev pub NoneBelow : Type 0
NoneBelow =
    (t : List Float) → FirstChoice t → (shape gain : ℕ) → shape < 4 → gain < gains_of shape
    → T (not (lt (distortion_with t shape gain) (distortion_with t (choice_of t).shape (choice_of t).gain)))

-- the signed pulses of each shape are as many as the shape has, where it has them, for every target
abbrev pub SignedShaped : Type 0
SignedShaped = (t : List Float) (shape : ℕ) → Shaped shape (signed_for t shape)

-- the signs and indices, unpacked, give the winner's very pulses
abbrev pub Unpacks : Type 0
Unpacks =
    (residual code : List Float) → let r = stage2_of residual code in
    pulses_at r.shape_j r.numbers ≡ signed_for (target_of residual) r.shape_j

-- the sixteen factors are those of the same codes, with the shape, the gain and the pulses that the signs and indices unpack to
abbrev pub FactorsAgain : Type 0
FactorsAgain =
    (residual code : List Float) → let r = stage2_of residual code in
    r.scfq ≡ from_codes code r.shape_j r.gind (pulses_at r.shape_j r.numbers)

-- the joint index is at most 33460055 for shapes 0 and 1, and 16708095 for shapes 2 and 3
abbrev pub JointTops : Type 0
JointTops =
    (residual code : List Float) → let r = stage2_of residual code in
    (r.shape_j < 2 → r.index_joint_j ≤ 33460055) × (2 ≤ r.shape_j → r.index_joint_j ≤ 16708095)

-- with residuals of at most 517 (factors of at most 512) no compared value is NaN: the searches compare finite numbers, and no distortion is NaN
abbrev pub ResidualNoNan : Type 0
ResidualNoNan = (residual : List Float) → Bounded 16 517 residual → let t = target_of residual in ComparesFinite (absolutes_of t) × Comparable t (candidates_of t)
