-- The claims of specs/Claims.antt: every field is given by an equation. Assumes nothing.
use mathlib.Core.Path.{◌≡◌, refl, sym, ap, ◌∙◌}
use mathlib.Core.List.{List}
use lib.ListN.{length}
use Rattle.std.specs.Prelude.{Ok, Err}
use Rattle.decoder.specs.Decoded.{field_factors}
use Rattle.encoder.specs.Quantized.{quantized_of}
use Rattle.encoder.specs.declared.Quantized.{Quantized}
use Rattle.refusals.specs.declared.Refused.{Refused}
use Rattle.refusals.specs.Answers.{Answer, Done, giving, number_in, kept}
use Rattle.sns_encode.specs.Encode.{fields_of, encode_answer, encoded_of}
use Rattle.sns_encode.proofs.Claims.{encode_zero}
use Rattle.sns_decode.specs.Decode.{decode_answer}
use Rattle.sns.proofs.EncodeClaims.{decodes_again}
use Rattle.sns.proofs.Alike.{both_alike}
use Rattle.sns_c.specs.Answers.{IsEncoded, CodeSays}
use Rattle.sns_c.specs.declared.Code.{Code}
use Rattle.sns_c.specs.declared.EncodedCode.{EncodedCode}
use Rattle.sns_c.specs.declared.PackedCode.{PackedCode}
use Rattle.sns_c.specs.declared.CheckedCode.{CheckedCode}
use Rattle.sns_c.specs.Claims.{CodePinned, EncodedPinned, PackedPinned, CheckedPinned, fields_in, EncodedKeeps, CodesAlike}

same_code : (r r' : Code) → r.number ≡ r'.number → r.place ≡ r'.place → r ≡ r'
same_code r r' a b = rw (← a, ← b)

same_encoded : (r r' : EncodedCode) → r.number ≡ r'.number → r.place ≡ r'.place → r.low_row ≡ r'.low_row → r.high_row ≡ r'.high_row → r.shape ≡ r'.shape → r.gain ≡ r'.gain
    → r.sign_a ≡ r'.sign_a → r.sign_b ≡ r'.sign_b → r.joint_index ≡ r'.joint_index → r.index_a ≡ r'.index_a → r.index_b ≡ r'.index_b → r ≡ r'
same_encoded r r' a b c d e f g h i j k = rw (← a, ← b, ← c, ← d, ← e, ← f, ← g, ← h, ← i, ← j, ← k)

same_packed : (r r' : PackedCode) → r.number ≡ r'.number → r.place ≡ r'.place → r.sign ≡ r'.sign → r.index ≡ r'.index → r ≡ r'
same_packed r r' a b c d = rw (← a, ← b, ← c, ← d)

same_checked : (r r' : CheckedCode) → r.number ≡ r'.number → r.value ≡ r'.value → r ≡ r'
same_checked r r' a b = rw (← a, ← b)

pub code_pinned : CodePinned
code_pinned A a filled old r r' new new' s s' =
    (same_code r r' (s.code.number ∙ sym s'.code.number) (s.code.place ∙ sym s'.code.place), s.buffer ∙ sym s'.buffer)

pub encoded_pinned : EncodedPinned
encoded_pinned a q old r r' new new' s s' =
    let e = s.encoded in
    let f = s'.encoded in (
      same_encoded r r' (e.number ∙ sym f.number) (e.place ∙ sym f.place) (e.low_row ∙ sym f.low_row) (e.high_row ∙ sym f.high_row)
          (e.shape ∙ sym f.shape) (e.gain ∙ sym f.gain) (e.sign_a ∙ sym f.sign_a) (e.sign_b ∙ sym f.sign_b) (e.joint_index ∙ sym f.joint_index)
          (e.index_a ∙ sym f.index_a) (e.index_b ∙ sym f.index_b),
      s.buffer ∙ sym s'.buffer,
    )

pub packed_pinned : PackedPinned
packed_pinned a r r' s s' =
    same_packed r r' (s.number ∙ sym s'.number) (s.place ∙ sym s'.place) (s.sign ∙ sym s'.sign) (s.index ∙ sym s'.index)

pub checked_pinned : CheckedPinned
checked_pinned a r r' s s' = same_checked r r' (s.number ∙ sym s'.number) (s.value ∙ sym s'.value)

-- after a refusal
pub encoded_keeps : EncodedKeeps
encoded_keeps a q old r new refused s e =
    let i : IsEncoded (Err refused) r = rw e at s.encoded in
    (i.number, i.place, rw (i.low_row, i.high_row, i.shape, i.gain, i.sign_a, i.sign_b, i.index_a, i.index_b), i.joint_index, s.buffer ∙ ap (λ b. kept b q.stage2.scfq old) e)

-- ---- both ends
-- what is given besides changes no number
number_given : {A : Type 0} (a : Answer) (x : A) → number_in a ≡ number_in (giving a x)
number_given (Ok u) x = refl
number_given (Err refused) x = refl

-- the fields of an answer that is done
fields_in_lem : (a : Answer) (q : Quantized) (r : EncodedCode) → a ≡ Done → IsEncoded (giving a (encoded_of q)) r → fields_in r ≡ fields_of q
fields_in_lem a q r e i = rw (i.low_row, i.high_row, i.shape, i.gain, i.sign_a, i.sign_b, i.index_a, i.index_b, e)

-- a call that is done
done_code : {A : Type 0} (a : Answer) (filled old : List A) (c : Code) (new : List A) → a ≡ Done → CodeSays a filled old c new → (c.number ≡ 0) × (new ≡ filled)
done_code a filled old c new e s = (s.code.number ∙ ap number_in e, s.buffer ∙ ap (λ b. kept b filled old) e)

pub codes_alike : CodesAlike
codes_alike factors old other r c sent got s z l d =
    let q = quantized_of factors in
    let e = encode_zero factors (length old) (number_given (encode_answer factors (length old)) (encoded_of q) ∙ sym s.encoded.number ∙ z) in
    let f = fields_in_lem _ q r e s.encoded in
    let done = done_code (decode_answer (fields_in r) (length other)) (field_factors (fields_in r)) other c got (rw (f, l) (decodes_again factors).0) d in
    (done.0, s.buffer ∙ ap (λ b. kept b q.stage2.scfq old) e ∙ both_alike factors ∙ sym (ap field_factors f) ∙ sym done.1)
