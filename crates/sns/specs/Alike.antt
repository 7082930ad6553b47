-- Both ends shape alike: what the encoder synthesises is what the decoder makes of its answer; and so, after it, the bands and the lines.
-- Definitions only; the proofs are in proofs/Alike.antt.
use Rattle.std.specs.Prelude.{◌≡◌, Bool, true, List, ℕ, ◌<◌, length, get_or, Float, Ok}
use Rattle.std.specs.Float.{nan}
use Rattle.float_laws.specs.Size.{Within}
use Rattle.encoder.specs.Quantized.{quantized_of}
use Rattle.decoder.specs.Decoded.{field_factors}
use Rattle.interpolation.specs.Bands.{count_ok}
use Rattle.refusals.specs.Answers.{Answer, Done}
use Rattle.sns_encode.specs.declared.Encoded.{Encoded}
use Rattle.sns_encode.specs.Encode.{encode_answer, fields_of, EncodeSays}
use Rattle.sns_decode.specs.Decode.{DecodeSays}
use Rattle.sns_interpolate.specs.Interpolate.{interpolate_answer, InterpolateSays}
use Rattle.sns_shape.specs.Shape.{ShapeSays}

-- THE CLAIM: the sixteen factors from the encoder equal, bit for bit, those the decoder makes from its answer, whatever was encoded
abbrev pub BothAlike : Type 0
BothAlike = (factors : List Float) → (quantized_of factors).stage2.scfq ≡ field_factors (fields_of (quantized_of factors))

-- they are finite and within plus or minus 11
abbrev pub EncodedWithin : Type 0
EncodedWithin = (factors : List Float) (n : ℕ) → n < 16 → Within (get_or (quantized_of factors).stage2.scfq n nan) 11 1

-- so interpolate takes them, for 60 bands and for 64
abbrev pub EncodedBands : Type 0
EncodedBands = (factors : List Float) (count : ℕ) → count_ok count ≡ true → interpolate_answer (quantized_of factors).stage2.scfq count count ≡ Done

-- ---- at the calls
-- One frame: a call of encode that is done and leaves `sent`, and a call of decode, on the fields of its answer and any other sixteen, that leaves `got`.
pub record Frame (factors sent got : List Float) : Type 0 where
  pub encoded : Encoded
  pub decoded : Answer
  pub old : List Float
  pub other : List Float
  pub encodes : EncodeSays factors old (Ok encoded) sent
  pub sixteen : length other ≡ 16
  pub decodes : DecodeSays encoded.fields other decoded got

-- there is such a frame for all factors that encode takes, whatever the two buffers hold
abbrev pub FramesThere : Type 0
FramesThere =
    (factors old other : List Float) → encode_answer factors (length old) ≡ Done → length other ≡ 16
    → (sent : List Float) × (got : List Float) × (f : Frame factors sent got) × (f.old ≡ old) × (f.other ≡ other)

-- decode is done, and what both leave is equal, whatever both buffers held
abbrev pub CallsAlike : Type 0
CallsAlike = (factors sent got : List Float) (f : Frame factors sent got) → (f.decoded ≡ Done) × (sent ≡ got)

-- The same frame interpolated at both ends, to as many bands.
pub record Interpolated (factors : List Float) (count : ℕ) (bands bands' : List Float) : Type 0 where
  pub sent : List Float
  pub got : List Float
  pub frame : Frame factors sent got
  pub count_ok : count_ok count ≡ true
  pub answer : Answer
  pub answer' : Answer
  pub old : List Float
  pub old' : List Float
  pub long : length old ≡ count
  pub long' : length old' ≡ count
  pub here : InterpolateSays sent count old answer bands
  pub there : InterpolateSays got count old' answer' bands'

-- both calls are done, and the bands are equal, whatever they held
abbrev pub BandsAlike : Type 0
BandsAlike =
    (factors : List Float) (count : ℕ) (bands bands' : List Float) (b : Interpolated factors count bands bands')
    → (b.answer ≡ Done) × (b.answer' ≡ Done) × (bands ≡ bands')

-- and so are the answers and the lines, where both ends shape the same lines by gains that they make of their bands by one rule
abbrev pub LinesAlike : Type 0
LinesAlike =
    (factors : List Float) (count : ℕ) (bands bands' : List Float) → Interpolated factors count bands bands'
    → (gains : List Float → List Float) (rate : ℕ) (ten : Bool) (old : List Float) (r r' : Answer) (new new' : List Float)
    → ShapeSays rate ten count (gains bands) old r new → ShapeSays rate ten count (gains bands') old r' new' → (r ≡ r') × (new ≡ new')
