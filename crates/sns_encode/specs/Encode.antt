-- Encoding sixteen factors. Definitions only.
use Rattle.std.specs.Prelude.{◌≡◌, not, List, ◌∷◌, ℕ, eqb, length, Float, Result}
use Rattle.factor.specs.Check.{factor_limit}
use Rattle.encoder.specs.Quantized.{quantized_of}
use Rattle.encoder.specs.declared.Quantized.{Quantized}
use Rattle.refusals.specs.declared.Refusal.TheVariants.{Length}
use Rattle.refusals.specs.declared.Refused.{Refused}
use Rattle.refusals.specs.declared.Element.TheVariants.{Factor}
use Rattle.frame_fields.specs.declared.Fields.{Fields}
use Rattle.sns_encode.specs.declared.Encoded.{Encoded}
use Rattle.refusals.specs.Answers.{Answer, Question, ask, answer_of, giving, kept}
use Rattle.refusals.specs.Elements.{element_questions}

-- 9: a lent buffer has the wrong length (factors 16, and the sixteen to be filled). Then the factors by place.
unfoldable pub encode_questions : List Float → ℕ → List Question
encode_questions factors len =
    ask Length 0 (not (eqb (length factors) 16)) ∷
    ask Length 0 (not (eqb len 16)) ∷
    element_questions (Factor factor_limit) 0 factors

abbrev pub encode_answer : List Float → ℕ → Answer
encode_answer factors len = answer_of (encode_questions factors len)

-- The answer's fields: both rows, shape, gain, both lead signs and the two plain indices.
abbrev pub fields_of : Quantized → Fields
fields_of q = record {
  low_row = q.stage1.ind_lf;
  high_row = q.stage1.ind_hf;
  shape = q.stage2.shape_j;
  gain = q.stage2.gind;
  sign_a = q.stage2.numbers.sign_a;
  sign_b = q.stage2.numbers.sign_b;
  index_a = q.stage2.numbers.index_a;
  index_b = q.stage2.numbers.index_b;
}

-- what is answered besides the filled sixteen: these and their joint index
abbrev pub encoded_of : Quantized → Encoded
encoded_of q = record { fields = fields_of q; joint_index = q.stage2.index_joint_j }

-- the whole result of a call, r, and what the sixteen hold at return, new, where they held old
abbrev pub EncodeSays : List Float → List Float → Result Encoded Refused → List Float → Type 0
EncodeSays factors old r new =
    (r ≡ giving (encode_answer factors (length old)) (encoded_of (quantized_of factors))) × (new ≡ kept (encode_answer factors (length old)) (quantized_of factors).stage2.scfq old)
