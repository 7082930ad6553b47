-- The call's place is at most 400. Assumes nothing.
use mathlib.Core.Path.{◌≡◌, sym, subst}
use mathlib.Core.Bool.{Bool, true, false, false≢true, not, ◌||◌}
use mathlib.Core.List.{List}
use Prim.Native.Nat.{ℕ, ◌+◌, ◌≤◌, ◌<◌}
use native.Mathlib.Nat.{le_trans, le_of_eq, min-le_left}
use native.Mathlib.Omega.{arith}
use borrow.Author.Tests.{not-false, ltb-false, eqb-true}
use lib.Dec.{leb, eqb, leb→le}
use lib.ListN.{length, take, length-take}
use lib.Ieee.{Float}
use Rattle.list_laws.proofs.Every.{at_below}
use Rattle.band_index_tables.specs.Bands.{limit_tables, bands_of, last_limit}
use Rattle.shaping.proofs.Laws.{bands_most}
use Rattle.interpolation.specs.Bands.{count_ok}
use Rattle.refusals.specs.Answers.{place_in}
use Rattle.refusals.specs.declared.Element.TheVariants.{Value}
use Rattle.refusals.specs.Elements.{element_questions}
use Rattle.sns_shape.specs.Shape.{shape_questions, shape_answer}
use Rattle.refusals.proofs.Places.{Most, ask_step, joined, of_elements}

-- the last limit is at most 400: a computed test over the tables
last_most : (rate : ℕ) (ten : Bool) → rate < 5 → last_limit rate ten ≤ 400
unfolding limit_tables bands_of
last_most rate true h = leb→le _ _ (at_below 5 (λ r. leb (last_limit r true) 400) tt rate h)
last_most rate false h = leb→le _ _ (at_below 5 (λ r. leb (last_limit r false) 400) tt rate h)

right : (a b : Bool) → a || not b ≡ false → b ≡ true
right true b h = absurd (false≢true (sym h))
right false b h = not-false b h

below : (n : ℕ) → n ≤ 4 → n < 5
below n h = omega arith

pub shape_place : (rate : ℕ) (ten : Bool) (count : ℕ) (gains lines : List Float) → place_in (shape_answer rate ten count gains lines) ≤ 400
unfolding Most shape_questions
shape_place rate ten count gains lines =
    ask_step _ 0 _ _ tt (λ a. ask_step _ 0 _ _ tt (λ b. ask_step _ 0 _ _ tt (λ d. ask_step _ 0 _ _ tt (λ e.
    let r = below rate (ltb-false 4 rate a) in
    joined _ _ (of_elements Value 0 gains (few (length gains) count (eqb-true _ _ (not-false _ d)) (counted b r))) (lines_most r)))))
  where
    few : (n c : ℕ) → n ≡ c → c ≤ 64 → 0 + n ≤ 400
    few n c e h = omega arith

    counted : not (count_ok count) || not (eqb count (bands_of rate ten)) ≡ false → rate < 5 → count ≤ 64
    counted h r = subst (λ (n : ℕ). n ≤ 64) (sym (eqb-true _ _ (right (not (count_ok count)) (eqb count (bands_of rate ten)) h))) (bands_most rate ten r)

    from_none : {n : ℕ} → n ≤ 400 → 0 + n ≤ 400
    from_none h = omega arith

    lines_most : rate < 5 → Most (element_questions Value 0 (take (last_limit rate ten) lines))
    lines_most r = of_elements Value 0 _ (from_none (le_trans (le_of_eq (length-take _ lines)) (le_trans (min-le_left _ _) (last_most rate ten r))))
