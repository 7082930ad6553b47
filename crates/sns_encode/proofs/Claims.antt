-- The claims of specs/Claims.antt. Assumes nothing.
use mathlib.Core.Path.{◌≡◌, refl, sym, ap, ◌∙◌}
use mathlib.Core.List.{List}
use borrow.Author.Tests.{not-false, eqb-true}
use lib.ListN.{length}
use lib.Ieee.{Float}
use Rattle.std.specs.Prelude.{Result, Ok, Err}
use Rattle.factor.specs.Check.{factor_limit}
use Rattle.encoder.specs.Quantized.{quantized_of}
use Rattle.refusals.specs.declared.Refused.{Refused}
use Rattle.refusals.specs.declared.Element.TheVariants.{Factor}
use Rattle.refusals.specs.Answers.{Answer, Done, giving, kept}
use Rattle.sns_encode.specs.declared.Encoded.{Encoded}
use Rattle.sns_encode.specs.Encode.{encode_questions, encode_answer, encoded_of, EncodeSays}
use Rattle.sns_encode.specs.Claims.{EncodePinned, EncodeKeeps, EncodeZero, FactorsAlone, EncodeTaken, EncodeTakes}
use Rattle.refusals.proofs.Answers.{done, zero_done}
use Rattle.refusals.proofs.Elements.{all_done, done_all}
use Rattle.sns_encode.proofs.EncodeAnswers.{by_factors}

pub encode_pinned : EncodePinned
encode_pinned factors old r r' new new' (p, q) (p', q') = (p ∙ sym p', q ∙ sym q')

-- what gives a refusal is refused with it, and what gives an answer is done
pub refused_by : {A : Type 0} (a : Answer) (x : A) (refused : Refused) → giving a x ≡ Err refused → a ≡ Err refused
refused_by (Ok u) x refused e = cc
refused_by (Err other) x refused e = cc

pub done_by : {A : Type 0} (a : Answer) (x y : A) → giving a x ≡ Ok y → (a ≡ Done) × (y ≡ x)
done_by (Ok u) x y e = (refl, cc)
done_by (Err other) x y e = (cc, cc)

pub encode_keeps : EncodeKeeps
encode_keeps factors old r new refused (p, q) e =
    q ∙ ap (λ a. kept a (quantized_of factors).stage2.scfq old) (refused_by (encode_answer factors (length old)) (encoded_of (quantized_of factors)) refused (sym p ∙ e))

-- a call that is done answers what is quantized, and fills the buffer with its factors
pub encode_fills : (factors old : List Float) (encoded : Encoded) (new : List Float) → EncodeSays factors old (Ok encoded) new
    → (encoded ≡ encoded_of (quantized_of factors)) × (new ≡ (quantized_of factors).stage2.scfq)
encode_fills factors old encoded new (p, q) =
    let d = done_by (encode_answer factors (length old)) (encoded_of (quantized_of factors)) encoded (sym p) in
    (d.1, q ∙ ap (λ a. kept a (quantized_of factors).stage2.scfq old) d.0)

pub factors_alone : FactorsAlone
factors_alone factors old old' r r' new new' l (p, q) (p', q') = (p ∙ same ∙ sym p', λ d. filled old new q d ∙ sym (filled old' new' q' (sym (ap (encode_answer factors) l) ∙ d)))
  where
    same : giving (encode_answer factors (length old)) (encoded_of (quantized_of factors)) ≡ giving (encode_answer factors (length old')) (encoded_of (quantized_of factors))
    same = ap (λ n. giving (encode_answer factors n) (encoded_of (quantized_of factors))) l

    filled : (o n : List Float) → n ≡ kept (encode_answer factors (length o)) (quantized_of factors).stage2.scfq o → encode_answer factors (length o) ≡ Done → n ≡ (quantized_of factors).stage2.scfq
    filled o n q d = q ∙ ap (λ a. kept a (quantized_of factors).stage2.scfq o) d

pub encode_zero : EncodeZero
encode_zero factors len e = zero_done (encode_questions factors len) e

pub encode_takes : EncodeTakes
unfolding encode_questions
encode_takes factors len = (there, back)
  where
    there : EncodeTaken factors len → encode_answer factors len ≡ Done
    there t = sym (by_factors factors len t.sixteen t.long (all_done (Factor factor_limit) 0 factors t.in_range))

    back : encode_answer factors len ≡ Done → EncodeTaken factors len
    back e =
        let a = done _ 0 _ _ e in
        let b = done _ 0 _ _ a.1 in
        record {
          sixteen = eqb-true _ 16 (not-false _ a.0);
          long = eqb-true len 16 (not-false _ b.0);
          in_range = done_all (Factor factor_limit) 0 factors b.1;
        }
