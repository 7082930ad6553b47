-- What is claimed of decode and decode_pulses. The proofs are in proofs/Claims.antt.
use Rattle.std.specs.Prelude.{◌≡◌, List, ℕ, ◌<◌, ℤ, get_or, Float}
use Rattle.std.specs.Float.{nan}
use Rattle.float_laws.specs.Size.{Within}
use Rattle.refusals.specs.Answers.{Answer, Done}
use Rattle.frame_fields.specs.declared.Fields.{Fields}
use Rattle.frame_fields.specs.Accepted.{Accepted}
use Rattle.sns_decode.specs.Decode.{decode_answer, DecodeSays, PulsesSays}
use Rattle.decoder.specs.Decoded.{field_factors}
use Rattle.refusals.specs.Claims.{Keeps}

abbrev pub DecodePinned : Type 0
DecodePinned = (f : Fields) (old : List Float) (r r' : Answer) (new new' : List Float) → DecodeSays f old r new → DecodeSays f old r' new' → (r ≡ r') × (new ≡ new')

abbrev pub PulsesPinned : Type 0
PulsesPinned = (f : Fields) (old : List ℤ) (r r' : Answer) (new new' : List ℤ) → PulsesSays f old r new → PulsesSays f old r' new' → (r ≡ r') × (new ≡ new')

abbrev pub DecodeKeeps : Type 0
DecodeKeeps = (f : Fields) → Keeps (DecodeSays f)

abbrev pub PulsesKeep : Type 0
PulsesKeep = (f : Fields) → Keeps (PulsesSays f)

-- what decode takes: rows below 32, a shape below 4, a gain of the shape, signs and indices in use below their ends, sixteen factors
pub record DecodeTaken (f : Fields) (len : ℕ) : Type 0 where
  pub long : len ≡ 16
  pub fields : Accepted f

abbrev pub DecodeTakes : Type 0
DecodeTakes = (f : Fields) (len : ℕ) → (DecodeTaken f len → decode_answer f len ≡ Done) × (decode_answer f len ≡ Done → DecodeTaken f len)

-- and then the sixteen factors lie within plus or minus 64
abbrev pub DecodeWithin : Type 0
DecodeWithin = (f : Fields) (len : ℕ) → decode_answer f len ≡ Done → (n : ℕ) → n < 16 → Within (get_or (field_factors f) n nan) 64 1
