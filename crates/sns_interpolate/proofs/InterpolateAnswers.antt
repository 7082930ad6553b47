-- The answer of interpolating, by the questions that led to it. Assumes nothing.
use mathlib.Core.Path.{◌≡◌, ap}
use mathlib.Core.Bool.{true, not}
use mathlib.Core.List.{List}
use Prim.Native.Nat.{ℕ}
use borrow.Author.Tests.{eq-eqb}
use lib.Dec.{T}
use lib.ListN.{length}
use lib.Ieee.{Float}
use Rattle.float_laws.specs.Decimal.{plus}
use Rattle.float_laws.specs.Kind.{finite}
use Rattle.interpolation.specs.Bands.{band_limit, count_ok}
use Rattle.refusals.specs.declared.Element.TheVariants.{Factor}
use Rattle.refusals.specs.Answers.{Answer, answer_of}
use Rattle.refusals.specs.Elements.{element_questions}
use Rattle.sns_interpolate.specs.Interpolate.{interpolate_questions, interpolate_answer}
use Rattle.refusals.proofs.Answers.{not_given}

pub by_factors : (factors : List Float) (count len : ℕ) {r : Answer} → count_ok count ≡ true → length factors ≡ 16 → len ≡ count
    → r ≡ answer_of (element_questions (Factor band_limit) 0 factors) → r ≡ interpolate_answer factors count len
unfolding interpolate_questions
by_factors factors count len p l q e =
    not_given _ 0 _ _ (ap not p) (not_given _ 0 _ _ (ap not (eq-eqb (length factors) 16 l)) (not_given _ 0 _ _ (ap not (eq-eqb len count q)) e))

pub limit_finite : T (finite band_limit)
unfolding band_limit plus
limit_finite = tt
