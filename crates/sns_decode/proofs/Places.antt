-- The call's place is at most 400. Assumes nothing.
use Prim.Native.Nat.{ℕ, ◌≤◌}
use Rattle.frame_fields.specs.declared.Fields.{Fields}
use Rattle.refusals.specs.Answers.{place_in}
use Rattle.field_refusal.specs.Fields.{field_questions}
use Rattle.sns_decode.specs.Decode.{decode_questions, decode_answer}
use Rattle.refusals.proofs.Places.{Most, none, ask_step}

pub decode_place : (f : Fields) (len : ℕ) → place_in (decode_answer f len) ≤ 400
unfolding Most decode_questions field_questions
decode_place f len =
    ask_step _ 0 _ _ tt (λ a. ask_step _ 0 _ _ tt (λ b. ask_step _ 1 _ _ tt (λ d. ask_step _ 0 _ _ tt (λ e.
    ask_step _ 0 _ _ tt (λ g. ask_step _ 0 _ _ tt (λ h. ask_step _ 1 _ _ tt (λ i. ask_step _ 0 _ _ tt (λ j.
    ask_step _ 1 _ _ tt (λ k. none)))))))))
