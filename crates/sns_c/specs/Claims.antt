-- What is claimed of the calls for C: two results that a call's statement allows are equal, and so are the buffers; and both ends shape alike. The proofs are in
-- proofs/Claims.antt.
use Rattle.std.specs.Prelude.{◌≡◌, List, length, Float, Result, Err}
use Rattle.decoder.specs.Decoded.{field_factors}
use Rattle.encoder.specs.Quantized.{quantized_of}
use Rattle.encoder.specs.declared.Quantized.{Quantized}
use Rattle.factor.specs.declared.Checked.{Checked}
use Rattle.refusals.specs.declared.Refused.{Refused}
use Rattle.refusals.specs.Answers.{Answer, number_of}
use Rattle.frame_fields.specs.declared.Fields.{Fields}
use Rattle.sns_encode.specs.Encode.{encode_answer}
use Rattle.sns_decode.specs.Decode.{decode_answer}
use Rattle.numbering.specs.declared.Numbered.{Numbered}
use Rattle.sns_c.specs.declared.Code.{Code}
use Rattle.sns_c.specs.declared.EncodedCode.{EncodedCode}
use Rattle.sns_c.specs.declared.PackedCode.{PackedCode}
use Rattle.sns_c.specs.declared.CheckedCode.{CheckedCode}
use Rattle.sns_c.specs.Answers.{CodeSays, no_fields, EncodedSays, IsPacked, IsChecked, fields_from}

-- decode, interpolate, shape, unpack
abbrev pub CodePinned : Type 1
CodePinned =
    (A : Type 0) (a : Answer) (filled old : List A) (r r' : Code) (new new' : List A)
    → CodeSays a filled old r new → CodeSays a filled old r' new' → (r ≡ r') × (new ≡ new')

-- encode
abbrev pub EncodedPinned : Type 0
EncodedPinned =
    (a : Answer) (q : Quantized) (old : List Float) (r r' : EncodedCode) (new new' : List Float)
    → EncodedSays a q old r new → EncodedSays a q old r' new' → (r ≡ r') × (new ≡ new')

-- pack
abbrev pub PackedPinned : Type 0
PackedPinned = (a : Result Numbered Refused) (r r' : PackedCode) → IsPacked a r → IsPacked a r' → r ≡ r'

-- check_factor
abbrev pub CheckedPinned : Type 0
CheckedPinned = (a : Checked) (r r' : CheckedCode) → IsChecked a r → IsChecked a r' → r ≡ r'

-- the fields in the struct that lc3_sns_encode answers
abbrev pub fields_in : EncodedCode → Fields
fields_in r = fields_from r.low_row r.high_row r.shape r.gain r.sign_a r.sign_b r.index_a r.index_b

-- after a refusal, which has its number and place, every other number in that struct is 0, and the sixteen hold what they held
abbrev pub EncodedKeeps : Type 0
EncodedKeeps =
    (a : Answer) (q : Quantized) (old : List Float) (r : EncodedCode) (new : List Float) (refused : Refused)
    → EncodedSays a q old r new → a ≡ Err refused
    → (r.number ≡ number_of refused.refusal) × (r.place ≡ refused.place) × (fields_in r ≡ no_fields) × (r.joint_index ≡ 0) × (new ≡ old)

-- where lc3_sns_encode answers number 0, so does lc3_sns_decode of the fields in its answer, into any other sixteen, and both leave the same, whatever both held
abbrev pub CodesAlike : Type 0
CodesAlike =
    (factors old other : List Float) (r : EncodedCode) (c : Code) (sent got : List Float)
    → EncodedSays (encode_answer factors (length old)) (quantized_of factors) old r sent → r.number ≡ 0
    → length other ≡ 16 → CodeSays (decode_answer (fields_in r) (length other)) (field_factors (fields_in r)) other c got
    → (c.number ≡ 0) × (sent ≡ got)
