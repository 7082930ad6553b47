-- The claims of specs/Claims.antt. Assumes nothing.
use mathlib.Core.Path.{◌≡◌, sym, ap}
use borrow.Author.Tests.{not-false, eqb-true, eq-eqb}
use lib.ListN.{length}
use Rattle.refusals.specs.Answers.{Done}
use Rattle.sns_decode.specs.Decode.{decode_answer, decode_questions}
use Rattle.decoder.specs.Decoded.{field_pulses, field_factors}
use Rattle.sns_decode.specs.Claims.{DecodePinned, PulsesPinned, DecodeKeeps, PulsesKeep, DecodeTaken, DecodeTakes, DecodeWithin}
use Rattle.refusals.proofs.Answers.{done, not_given}
use mathlib.Core.Bool.{not}
use Rattle.decoder.proofs.Claims.{within_64}
use Rattle.field_refusal.proofs.Accepted.{accepted, taken}
use Rattle.refusals.proofs.Pinned.{pinned, keeps}

pub decode_pinned : DecodePinned
decode_pinned f old r r' new new' = pinned (decode_answer f (length old)) (field_factors f) old

pub pulses_pinned : PulsesPinned
pulses_pinned f old r r' new new' = pinned (decode_answer f (length old)) (field_pulses f) old

pub decode_keeps : DecodeKeeps
decode_keeps f old = keeps (decode_answer f (length old)) (field_factors f) old

pub pulses_keep : PulsesKeep
pulses_keep f old = keeps (decode_answer f (length old)) (field_pulses f) old

pub decode_takes : DecodeTakes
unfolding decode_questions
decode_takes f len = (there, back)
  where
    there : DecodeTaken f len → decode_answer f len ≡ Done
    there t = sym (not_given _ 0 _ _ (ap not (eq-eqb len 16 t.long)) (taken f t.fields))

    back : decode_answer f len ≡ Done → DecodeTaken f len
    back e = let d = done _ 0 _ _ e in record { long = eqb-true len 16 (not-false _ d.0); fields = accepted f d.1 }

pub decode_within : DecodeWithin
decode_within f len e n h = within_64 f ((decode_takes f len).1 e).fields n h
