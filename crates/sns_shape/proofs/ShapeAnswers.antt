-- The answer of shaping, by the questions that led to it. Assumes nothing.
use mathlib.Core.Path.{◌≡◌, refl, ap, ◌∙◌}
use mathlib.Core.Bool.{Bool, true, false, not, ◌||◌}
use mathlib.Core.List.{List}
use Prim.Native.Nat.{ℕ, zero, suc, ◌≤◌}
use borrow.Author.Tests.{eq-eqb, eqb-true, le-ltb}
use lib.Dec.{eqb}
use lib.ListN.{length, take}
use lib.Ieee.{Float}
use Rattle.band_index_tables.specs.Bands.{bands_of, last_limit}
use Rattle.interpolation.specs.Bands.{count_ok}
use Rattle.refusals.specs.declared.Element.TheVariants.{Value}
use Rattle.refusals.specs.Answers.{Answer, Done, answer_of}
use Rattle.refusals.specs.Elements.{element_questions}
use Rattle.sns_shape.specs.Shape.{shape_questions, shape_answer}
use Rattle.refusals.proofs.Answers.{not_given, all_pass}

-- every table has 60 bands or 64
bands_ok : (rate : ℕ) (ten : Bool) → count_ok (bands_of rate ten) ≡ true
unfolding bands_of
bands_ok zero false = refl
bands_ok zero true = refl
bands_ok (suc rate) ten = refl

-- so the band count is refused exactly when it isn't the table's
pub asked_count : (rate : ℕ) (ten : Bool) (count : ℕ) → not (count_ok count) || not (eqb count (bands_of rate ten)) ≡ not (eqb count (bands_of rate ten))
asked_count rate ten count = by (eqb count (bands_of rate ten)) refl
  where
    or_true : (b : Bool) → b || true ≡ true
    or_true true = refl
    or_true false = refl

    by : (b : Bool) → eqb count (bands_of rate ten) ≡ b → not (count_ok count) || not b ≡ not b
    by false e = or_true (not (count_ok count))
    by true e = rw (ap count_ok (eqb-true count (bands_of rate ten) e) ∙ bands_ok rate ten)

-- the rate, the count and the lengths are as they should be
pub record Fitting (rate : ℕ) (ten : Bool) (count : ℕ) (gains lines : List Float) : Type 0 where
  pub rate_most : rate ≤ 4
  pub count_is : count ≡ bands_of rate ten
  pub gain_count : length gains ≡ count
  pub line_count : last_limit rate ten ≤ length lines

-- then the gains are asked, and after them the lines
pub by_lines : (rate : ℕ) (ten : Bool) (count : ℕ) (gains lines : List Float) {r : Answer} → Fitting rate ten count gains lines
    → Done ≡ answer_of (element_questions Value 0 gains) → r ≡ answer_of (element_questions Value 0 (take (last_limit rate ten) lines)) → r ≡ shape_answer rate ten count gains lines
unfolding shape_questions
by_lines rate ten count gains lines f e g =
    not_given _ 0 _ _ (le-ltb 4 rate f.rate_most)
    (not_given _ 0 _ _ (asked_count rate ten count ∙ ap not (eq-eqb count (bands_of rate ten) f.count_is))
    (not_given _ 0 _ _ (ap not (eq-eqb (length gains) count f.gain_count))
    (not_given _ 0 _ _ (le-ltb _ _ f.line_count) (all_pass (element_questions Value 0 gains) _ refl e g))))
