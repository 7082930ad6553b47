-- What is claimed of encode, the third demand: no scanned choice beats the answer, and decoded again it gives the winner's very pulses.
-- Definitions only; the proofs are in proofs/EncodeClaims.antt.
use Rattle.std.specs.Prelude.{◌≡◌, not, List, ℕ, ◌<◌, T, Float}
use Rattle.std.specs.Float.Ieee.{lt}
use Rattle.sns_tables.specs.Gains.{gains_of}
use Rattle.stage1.specs.Stage1.{low_row, high_row, residual}
use Rattle.stage2_target.specs.Target.{target_of}
use Rattle.stage2.specs.Stage2.{choice_of, signed_for}
use Rattle.stage2.specs.Claims.{distortion_with}
use Rattle.encoder.specs.Quantized.{quantized_of}
use Rattle.encoder.specs.Claims.{NearestFirst}
use Rattle.refusals.specs.Answers.{Done}
use Rattle.sns_decode.specs.Decode.{decode_answer}
use Rattle.decoder.specs.Decoded.{field_pulses}
use Rattle.sns_encode.specs.Encode.{encode_answer, fields_of}

-- the answer's rows, shape and gain are the quantizer's rows and choice
pub record AnswersQuantizer (factors : List Float) : Type 0 where
  pub low : (fields_of (quantized_of factors)).low_row ≡ low_row factors
  pub high : (fields_of (quantized_of factors)).high_row ≡ high_row factors
  pub shape : (fields_of (quantized_of factors)).shape ≡ (choice_of (target_of (residual factors))).shape
  pub gain : (fields_of (quantized_of factors)).gain ≡ (choice_of (target_of (residual factors))).gain

abbrev pub AllAnswered : Type 0
AllAnswered = (factors : List Float) → AnswersQuantizer factors

-- and for factors that are taken these rows are the first with the least computed distance, and this choice is the first of those scanned with the least computed distortion
abbrev pub NoneBeats : Type 0
NoneBeats = (factors : List Float) (len : ℕ) → encode_answer factors len ≡ Done → NearestFirst factors

-- so no shape with any gain that the tables hold, the last of its row too, has a smaller computed distortion than the answer's shape with the answer's gain
abbrev pub NoGainBeats : Type 0
NoGainBeats =
    (factors : List Float) (len : ℕ) → encode_answer factors len ≡ Done → (shape gain : ℕ) → shape < 4 → gain < gains_of shape
    → let t = target_of (residual factors) in let f = fields_of (quantized_of factors) in
    T (not (lt (distortion_with t shape gain) (distortion_with t f.shape f.gain)))

-- decoded again: the decoder takes the fields, and their pulses are the winner's very pulses
abbrev pub DecodesAgain : Type 0
DecodesAgain =
    (factors : List Float) → let f = fields_of (quantized_of factors) in
    (decode_answer f 16 ≡ Done) × (field_pulses f ≡ signed_for (target_of (residual factors)) f.shape)
