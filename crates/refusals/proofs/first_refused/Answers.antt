-- One element after another: the answer is what the elements from `place` on are answered.
use mathlib.Core.Path.{sym, ap, ◌∙◌}
use lib.ListN.{drop_of_length-le}
use Rattle.std.specs.Prelude.{Err}
use Rattle.std.proofs.lemmas.Result.{err_from_is_err_and}
use Rattle.refusals.specs.Answers.{answer_of}
use Rattle.refusals.specs.Elements.{element_questions}
use Rattle.refusals.proofs.Answers.{none_left}
use Rattle.refusals.proofs.Elements.{element_at}
use Rattle.refusals.proofs.first_refused.Goals as goal

-- what the element at this place has left: its answer is the row's, or the rest's answer is
pub returns-in_err-element_refusal : goal.returns-in_err-element_refusal
returns-in_err-element_refusal c =
    let p = err_from_is_err_and c.from_residual.result c.from_residual.ensures.1 in
    p.1 ∙ ap Err p.2 ∙ sym (c.loop-place.invariant ∙ element_at _ _ c.loop-place.place _ c.loop-place-test.true (sym c.in_err-element_refusal.was ∙ c.element_refusal.ensures))

pub loop-place-preserved : goal.loop-place-preserved
loop-place-preserved c = c.loop-place.invariant ∙ element_at _ _ c.loop-place.place _ c.loop-place-test.true (sym c.in_ok-element_refusal.was ∙ c.element_refusal.ensures)

pub returns : goal.returns
unfolding element_questions
returns c = none_left ∙ sym (c.loop-place.invariant ∙ ap (λ xs. answer_of (element_questions c.args.element c.loop-place.place xs)) (drop_of_length-le _ c.loop-place-test.false))
