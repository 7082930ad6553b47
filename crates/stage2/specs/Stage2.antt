-- Stage 2 of the quantizer, whole, over the residual and the codes. Definitions only.
use Rattle.std.specs.Prelude.{cond, List, [], ℕ, ◌<◌, ℤ, get_or, Float}
use Rattle.std.specs.Float.{nan}
use Rattle.std.specs.Float.Ieee.{lt}
use Rattle.float_laws.specs.Literal.{nought}
use Rattle.list_laws.specs.ListOf.{list_of}
use Rattle.sns_tables.specs.Gains.{gain_at}
use Rattle.frame_fields.specs.Joint.{joint_index}
use Rattle.numbering.specs.Numbering.{signed}
use Rattle.shape_numbers.specs.Numbers.{numbers_of}
use Rattle.pulse_length.specs.Length.{Sixteen}
use Rattle.synthesis.specs.Synthesis.{from_codes}
use Rattle.stage2_target.specs.Target.{target_of, absolutes_of}
use Rattle.shape_search.specs.Shape.{shape_pulses}
use Rattle.candidates.specs.declared.Choice.{Choice}
use Rattle.candidates.specs.Candidate.{candidate_of}
use Rattle.candidates.specs.Scan.{choice_at, winner_of}
use Rattle.stage2.specs.declared.Selected.{Selected}
use Rattle.stage2.specs.declared.SnsStage2Result.{SnsStage2Result}

-- Signs follow t < 0: 1, negative, where it is so, and 0 elsewhere.
abbrev pub sign_of : Float → ℕ
sign_of t = cond (lt t nought) 1 0

-- sixteen pulses with the signs of the target t
unfoldable pub signed_row : List Float → List ℕ → List ℤ
signed_row t y = list_of 16 (λ n. signed (sign_of (get_or t n nan)) (get_or y n 0))

-- the pulses of a shape for the target t, without signs
abbrev pub pulses_for : List Float → ℕ → List ℕ
pulses_for t shape = shape_pulses (absolutes_of t) shape

-- and with signs
abbrev pub signed_for : List Float → ℕ → List ℤ
signed_for t shape = signed_row t (pulses_for t shape)

-- four rows of sixteen pulses, each with a length
abbrev pub FourRows : List (List ℤ) → Type 0
FourRows v = (shape : ℕ) → shape < 4 → Sixteen (get_or v shape [])

-- the candidates of shapes 0 to 3
unfoldable pub candidates_of : List Float → List (List Float)
candidates_of t = list_of 4 (λ shape. candidate_of (signed_for t shape))

-- the shape and the gain that win
unfoldable pub choice_of : List Float → Choice
choice_of t = choice_at (winner_of t (candidates_of t))

-- the same, with the gain's value
unfoldable pub selected_of : List Float → Selected
selected_of t = let c = choice_of t in record { shape_j = c.shape; gind = c.gain; g_gain_i_shape_j = gain_at c.shape c.gain }

-- All that stage 2 gives, for a target and the codes. The factors are, by the formula of both ends, those of the codes, the shape, the gain and the signed pulses.
unfoldable pub result_of : List Float → List Float → SnsStage2Result
result_of t code =
    let c = choice_of t in
    let y = signed_for t c.shape in
    let numbers = numbers_of c.shape y in
    record {
      shape_j = c.shape;
      gind = c.gain;
      numbers = numbers;
      index_joint_j = joint_index c.shape c.gain numbers;
      scfq = from_codes code c.shape c.gain y;
    }

unfoldable pub stage2_of : List Float → List Float → SnsStage2Result
stage2_of residual code = result_of (target_of residual) code
