-- Decoding fields to sixteen factors, or to their sixteen pulses alone. Definitions only.
use Rattle.std.specs.Prelude.{◌≡◌, not, List, ◌∷◌, ℕ, eqb, ℤ, length, Float}
use Rattle.decoder.specs.Decoded.{field_pulses, field_factors}
use Rattle.refusals.specs.declared.Refusal.TheVariants.{Length}
use Rattle.frame_fields.specs.declared.Fields.{Fields}
use Rattle.refusals.specs.Answers.{Answer, Question, ask, answer_of, kept}
use Rattle.field_refusal.specs.Fields.{field_questions}

-- 9: a lent buffer has the wrong length (factors 16; the sixteen pulses likewise). Then the fields.
unfoldable pub decode_questions : Fields → ℕ → List Question
decode_questions f len = ask Length 0 (not (eqb len 16)) ∷ field_questions f

abbrev pub decode_answer : Fields → ℕ → Answer
decode_answer f len = answer_of (decode_questions f len)

-- the whole result of a call, r, and what the buffer holds at return, new, where it held old
abbrev pub DecodeSays : Fields → List Float → Answer → List Float → Type 0
DecodeSays f old r new = (r ≡ decode_answer f (length old)) × (new ≡ kept r (field_factors f) old)

-- the same for the pulses alone
abbrev pub PulsesSays : Fields → List ℤ → Answer → List ℤ → Type 0
PulsesSays f old r new = (r ≡ decode_answer f (length old)) × (new ≡ kept r (field_pulses f) old)
