-- One element after another: the answer is what the elements from `place` on are answered.
use mathlib.Core.Path.{◌≡◌}
use lib.ListN.{drop}
use Rattle.refusals.specs.Answers.{answer_of}
use Rattle.refusals.specs.Elements.{element_questions}
use Rattle.refusals.proofs.first_refused.Given as goal

abbrev pub invariant-loop-place : goal.invariant-loop-place
invariant-loop-place l = answer_of (element_questions l.element 0 l.values) ≡ answer_of (element_questions l.element l.place (drop l.place l.values))
