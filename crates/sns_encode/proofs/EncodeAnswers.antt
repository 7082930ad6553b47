-- The answer of encoding, by the questions that led to it. Assumes nothing.
use mathlib.Core.Path.{◌≡◌, ap}
use mathlib.Core.Bool.{not}
use mathlib.Core.List.{List}
use Prim.Native.Nat.{ℕ}
use borrow.Author.Tests.{eq-eqb}
use lib.ListN.{length}
use lib.Ieee.{Float}
use Rattle.factor.specs.Check.{factor_limit}
use Rattle.refusals.specs.declared.Element.TheVariants.{Factor}
use Rattle.refusals.specs.Answers.{Answer, answer_of}
use Rattle.refusals.specs.Elements.{element_questions}
use Rattle.sns_encode.specs.Encode.{encode_questions, encode_answer}
use Rattle.refusals.proofs.Answers.{not_given}

pub by_factors : (factors : List Float) (len : ℕ) {r : Answer} → length factors ≡ 16 → len ≡ 16 → r ≡ answer_of (element_questions (Factor factor_limit) 0 factors) → r ≡ encode_answer factors len
unfolding encode_questions
by_factors factors len l q e = not_given _ 0 _ _ (ap not (eq-eqb (length factors) 16 l)) (not_given _ 0 _ _ (ap not (eq-eqb len 16 q)) e)
