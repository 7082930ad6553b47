-- Each search starts with a pair that belongs to its pulses, so the record does after every pulse; and shapes 3 and 2 are one search. Assumes nothing.
use mathlib.Core.Path.{◌≡◌, refl, sym, ap, ◌∙◌}
use mathlib.Core.List.{List}
use Prim.Native.Nat.{ℕ, zero, suc, ◌+◌, ◌-◌, ◌*◌, ◌≤◌, ◌<◌}
use native.Mathlib.Nat.{le_refl, le_trans, le-suc, le_of_eq, mul-le-mul}
use native.Mathlib.Omega.{arith}
use lib.Dec.{lit<, lit≤}
use lib.IntN.{pos}
use lib.ListN.{get_or}
use lib.Ieee.{Float, nan, binary32, of_bits, of_int, add, sub, mul}
use Rattle.float_laws.proofs.Whole.{whole_add, whole_sub, whole_mul}
use Rattle.list_laws.specs.ListOf.{list_of}
use Rattle.pulse_search.specs.declared.SearchRecord.{SearchRecord}
use Rattle.pulse_search.specs.Pulse.{Search, start, more, missing, up_to, sum_over, total_to, square_to}
use Rattle.pulse_search.specs.Claims.{Belongs, Held}
use Rattle.pulse_search.proofs.Sums.{sum_suc, sum_grow, place_le}
use Rattle.pulse_search.proofs.Laws.{more_more}
use Rattle.pulse_search.proofs.Held.{far, squares_few, belongs_of, record_held}
use Rattle.projection.specs.Projection.{none, terms_of, with_terms, joined, joined_to, projected_of, whole, nothing, zeros, projection}
use Rattle.shape_search.specs.Shape.{low_of, dropped, dropped_to, lowered, shape3, shape2, shape1}
use Rattle.shape_search.specs.Claims.{SearchesHeld, ShapesHeld, OneSearch}
use Rattle.projection.proofs.Projection.{by_outcome, zeros_total, projection_length, projection_total}
use Rattle.shape_search.proofs.Facts.{three_length, three_total, two_total, low_length, low_all, low_sum_all}

-- ---- one place's energy, added and subtracted
own_square : (w : ℕ) → w ≤ 255 → mul binary32 (of_int binary32 (pos w)) (of_int binary32 (pos w)) ≡ of_int binary32 (pos (w * w))
own_square w h = let l = far w (le_trans h (lit≤ tt)) in whole_mul binary32 w w l l

-- p by the operation with the square of w is q
terms_energy : (op : Float → Float → Float) (r : SearchRecord) (x : Float) (p q w : ℕ) → w ≤ 255 → (w ≡ 0 → p ≡ q) → op (of_int binary32 (pos p)) (of_int binary32 (pos (w * w))) ≡ of_int binary32 (pos q)
    → r.energy ≡ of_int binary32 (pos p) → (with_terms op r w x).energy ≡ of_int binary32 (pos q)
unfolding with_terms terms_of
terms_energy op r x p q zero h z o e = e ∙ ap (λ (n : ℕ). of_int binary32 (pos n)) (z refl)
terms_energy op r x p q (suc w) h z o e =
    ap (λ (y : Float). op y (mul binary32 (of_int binary32 (pos (suc w))) (of_int binary32 (pos (suc w))))) e
    ∙ ap (λ (y : Float). op (of_int binary32 (pos p)) y) (own_square (suc w) h)
    ∙ o

nought_square : (w : ℕ) → w ≡ 0 → w * w ≡ 0
nought_square w e = rw e

joined_energy : (r : SearchRecord) (x : Float) (q w : ℕ) → q ≤ 65025 → w ≤ 255 → r.energy ≡ of_int binary32 (pos q) → (joined r w x).energy ≡ of_int binary32 (pos (q + w * w))
joined_energy r x q w h l =
    terms_energy (add binary32) r x q (q + w * w) w l (λ z. omega (arith, nought_square w z))
    (whole_add binary32 q (w * w) (far q (le_trans h (lit≤ tt))) (far (w * w) (le_trans (mul-le-mul l l) (lit≤ tt))))

dropped_energy : (r : SearchRecord) (x : Float) (q w : ℕ) → q + w * w ≤ 65025 → w ≤ 255 → r.energy ≡ of_int binary32 (pos (q + w * w)) → (dropped r w x).energy ≡ of_int binary32 (pos q)
dropped_energy r x q w h l =
    terms_energy (sub binary32) r x (q + w * w) q w l (λ z. omega (arith, nought_square w z))
    (whole_sub binary32 (q + w * w) (w * w) (far (q + w * w) (le_trans h (lit≤ tt))) (part q (w * w)) ∙ ap (λ (n : ℕ). of_int binary32 (pos n)) (back q (w * w)))
  where
    part : (q s : ℕ) → s ≤ q + s
    part q s = omega arith

    back : (q s : ℕ) → q + s - s ≡ q
    back q s = omega arith

-- ---- the projection's
projected_energy : (a : List Float) (y : List ℕ) (n : ℕ) → total_to y n ≤ 255 → (joined_to a y n).energy ≡ of_int binary32 (pos (square_to y n))
unfolding joined_to sum_over of_bits of_int
projected_energy a y zero h = refl
projected_energy a y (suc n) h =
    joined_energy (joined_to a y n) (get_or a n nan) (square_to y n) (get_or y n 0) (squares_few y n (omega arith)) (omega arith) (projected_energy a y n (omega arith))

zeros_square : square_to zeros 16 ≡ 0
unfolding sum_over list_of
zeros_square = refl

projection_belongs : (a : List Float) → Belongs (projection a)
projection_belongs a =
    by_outcome Belongs a (λ h. let u = le_trans h (lit≤ tt) in belongs_of (whole a) u (projected_energy a (projected_of a) 16 u))
    (belongs_of nothing (le_trans (le_of_eq zeros_total) (lit≤ tt)) (rw zeros_square no_energy))
  where
    no_energy : none.energy ≡ of_int binary32 (pos 0)
    no_energy = unfold of_bits of_int in refl

-- ---- and what is left of it without the places from 10 on
left : (a : List Float) (y : List ℕ) (r : SearchRecord) → total_to y 16 ≤ 255 → r.energy ≡ of_int binary32 (pos (square_to y 16))
    → (n q : ℕ) → n ≤ 6 → q + square_to y (10 + n) ≡ square_to y 16 + square_to y 10 → (dropped_to a y r n).energy ≡ of_int binary32 (pos q)
unfolding dropped_to
left a y r t e zero q l h = e ∙ ap (λ (n : ℕ). of_int binary32 (pos n)) (omega arith)
left a y r t e (suc n) q l h =
    let w = get_or y (10 + n) 0 in
    let i : 10 + n < 16 = omega arith in
    let s : square_to y (10 + suc n) ≡ square_to y (10 + n) + w * w = ap (square_to y) (next n) ∙ sum_suc (λ w. w * w) y (10 + n) in
    dropped_energy (dropped_to a y r n) (get_or a (10 + n) nan) q w (omega (arith, s, sum_grow (λ w. w * w) y 10 n, squares_few y 16 t)) (le_trans (place_le y (10 + n) 16 i) t)
    (left a y r t e n (q + w * w) (le_trans (le-suc n) l) (omega (arith, s)))
  where
    next : (n : ℕ) → 10 + suc n ≡ suc (10 + n)
    next n = omega arith

lowered_belongs : (a : List Float) (s : Search) → total_to s.pulses 16 ≤ 255 → Belongs s → Belongs (lowered a s)
unfolding lowered
lowered_belongs a s t b =
    let y = s.pulses in
    belongs_of (start (low_of y) (dropped_to a y s.pair 6)) (le_trans (le_of_eq (low_sum_all (λ w. w) refl y)) (le_trans (sum_grow (λ w. w) y 10 6) t))
    (left a y s.pair t b.squares 6 (square_to y 10) (le_refl 6) (swap (square_to y 10) (square_to y 16)) ∙ ap (λ (n : ℕ). of_int binary32 (pos n)) (sym (low_sum_all (λ w. w * w) refl y)))
  where
    swap : (i j : ℕ) → i + j ≡ j + i
    swap i j = omega arith

-- ---- the three searches
module _ (a : List Float) where
  three_held : Held a 15 (missing 15 6 (projection a)) (projection a)
  three_held = record_held a 15 (missing 15 6 (projection a)) (projection a) (lit< tt) (projection_length a) (omega (arith, projection_total a)) (projection_belongs a)

  shape3_belongs : Belongs (shape3 a)
  unfolding shape3
  shape3_belongs = three_held.placed (missing 15 6 (projection a)) (le_refl _)

  two_held : Held a 15 (missing 15 8 (shape3 a)) (shape3 a)
  two_held = record_held a 15 (missing 15 8 (shape3 a)) (shape3 a) (lit< tt) (three_length a) (omega (arith, three_total a)) shape3_belongs

  shape2_belongs : Belongs (shape2 a)
  unfolding shape2
  shape2_belongs = two_held.placed (missing 15 8 (shape3 a)) (le_refl _)

  one_held : Held a 9 (missing 9 10 (lowered a (shape2 a))) (lowered a (shape2 a))
  one_held =
      record_held a 9 (missing 9 10 (lowered a (shape2 a))) (lowered a (shape2 a)) (lit< tt) (low_length a) (omega (arith, low_all a))
      (lowered_belongs a (shape2 a) (le_trans (le_of_eq (two_total a)) (lit≤ tt)) shape2_belongs)

  shape1_belongs : Belongs (shape1 a)
  unfolding shape1
  shape1_belongs = one_held.placed (missing 9 10 (lowered a (shape2 a))) (le_refl _)

pub searches_held : SearchesHeld
searches_held a = record { three = three_held a; two = two_held a; one = one_held a }

pub shapes_held : ShapesHeld
shapes_held a = (shape3_belongs a, (shape2_belongs a, shape1_belongs a))

-- ---- one search
pub one_search : OneSearch
unfolding shape2 shape3
one_search a =
    let p = projection a in
    more_more a 15 (missing 15 6 p) p (missing 15 8 (up_to a 15 6 p)) ∙ ap (λ (n : ℕ). more a 15 n p) (omega (arith, three_total a, projection_total a))
