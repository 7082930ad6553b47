-- How many pulses each shape has, for every a, and its squared length. Assumes nothing.
use mathlib.Core.Path.{◌≡◌, refl, sym, ap, ◌∙◌, subst}
use mathlib.Core.Bool.{Bool, cond}
use mathlib.Core.List.{List}
use Prim.Native.Nat.{ℕ, suc, ◌+◌, ◌-◌, ◌≤◌, ◌<◌}
use native.Mathlib.Nat.{le_refl, le_trans, le_of_eq}
use native.Mathlib.Omega.{arith}
use borrow.Author.Tests.{lt-ltb, le-ltb}
use lib.Dec.{ltb, lit<, lit≤}
use lib.ListN.{length, get_or, length-set}
use lib.Ieee.{Float, nan, lt}
use Rattle.float_laws.proofs.Scan.{scan_under}
use Rattle.list_laws.proofs.ListOf.{length_list_of, get_or_list_of}
use Rattle.pulse_search.specs.Pulse.{Search, sum_over, total_to, missing, up_to}
use Rattle.pulse_search.proofs.Sums.{sum_same, sum_past, sum_set, sum_grow, sum_flat}
use Rattle.pulse_search.proofs.Laws.{more_length, more_total, more_past}
use Rattle.projection.specs.Projection.{projection}
use Rattle.projection.proofs.Projection.{projection_length, projection_total}
use Rattle.shape_search.specs.Shape.{shape3, shape2, low_of, lowered, shape1, largest_to, shape0}

pub length_low_of : (y : List ℕ) → length (low_of y) ≡ 16
unfolding low_of
length_low_of y = length_list_of 16 (λ n. cond (ltb n 10) (get_or y n 0) 0)

-- ---- going on up to k
up_length : (a : List Float) (m k : ℕ) (s : Search) → length (up_to a m k s).pulses ≡ length s.pulses
up_length a m k s = more_length a m (k - total_to s.pulses (suc m)) s

up_total : (a : List Float) (m k : ℕ) (s : Search) → suc m ≤ length s.pulses → total_to s.pulses (suc m) ≤ k → total_to (up_to a m k s).pulses (suc m) ≡ k
up_total a m k s l h =
    omega (arith, more_total a m (suc m) (le_refl (suc m)) (k - total_to s.pulses (suc m)) s l)

pub three_length : (a : List Float) → length (shape3 a).pulses ≡ 16
unfolding shape3
three_length a = up_length a 15 6 (projection a) ∙ projection_length a

-- shape 3 has six pulses
pub three_total : (a : List Float) → total_to (shape3 a).pulses 16 ≡ 6
unfolding shape3
three_total a = up_total a 15 6 (projection a) (le_of_eq (sym (projection_length a))) (projection_total a)

pub two_length : (a : List Float) → length (shape2 a).pulses ≡ 16
unfolding shape2
two_length a = up_length a 15 8 (shape3 a) ∙ three_length a

-- shape 2 has eight
pub two_total : (a : List Float) → total_to (shape2 a).pulses 16 ≡ 8
unfolding shape2
two_total a = up_total a 15 8 (shape3 a) (le_of_eq (sym (three_length a))) (le_trans (le_of_eq (three_total a)) (lit≤ tt))

-- ---- the places kept
low_below : (y : List ℕ) (i : ℕ) → i < 10 → get_or (low_of y) i 0 ≡ get_or y i 0
unfolding low_of
low_below y i h = get_or_list_of 16 (λ n. cond (ltb n 10) (get_or y n 0) 0) 0 i (le_trans h (lit≤ tt)) ∙ ap (λ (b : Bool). cond b (get_or y i 0) 0) (lt-ltb i 10 h)

low_above : (y : List ℕ) (i : ℕ) → 10 ≤ i → i < 16 → get_or (low_of y) i 0 ≡ 0
unfolding low_of
low_above y i h k = get_or_list_of 16 (λ n. cond (ltb n 10) (get_or y n 0) 0) 0 i k ∙ ap (λ (b : Bool). cond b (get_or y i 0) 0) (le-ltb i 10 h)

pub low_sum : (f : ℕ → ℕ) (y : List ℕ) → sum_over f (low_of y) 10 ≡ sum_over f y 10
low_sum f y = sum_same f (low_of y) y 10 (low_below y)

-- all sixteen places: the others add nothing
pub low_sum_all : (f : ℕ → ℕ) → f 0 ≡ 0 → (y : List ℕ) → sum_over f (low_of y) 16 ≡ sum_over f y 10
low_sum_all f z y = sum_flat f z (low_of y) 10 6 (low_above y) ∙ low_sum f y

-- ---- shape 1: ten pulses in the first ten places, none past them
pub low_length : (a : List Float) → length (lowered a (shape2 a)).pulses ≡ 16
unfolding lowered
low_length a = length_low_of (shape2 a).pulses

pub low_total : (a : List Float) → total_to (lowered a (shape2 a)).pulses 10 ≤ 8
unfolding lowered
low_total a = le_trans (le_of_eq (low_sum (λ w. w) (shape2 a).pulses)) (le_trans (sum_grow (λ w. w) (shape2 a).pulses 10 6) (le_of_eq (two_total a)))

low_zero : (a : List Float) (i : ℕ) → 10 ≤ i → i < 16 → get_or (lowered a (shape2 a)).pulses i 0 ≡ 0
unfolding lowered
low_zero a i h k = low_above (shape2 a).pulses i h k

pub low_same : (a : List Float) → total_to (lowered a (shape2 a)).pulses 16 ≡ total_to (lowered a (shape2 a)).pulses 10
low_same a = sum_flat (λ w. w) refl (lowered a (shape2 a)).pulses 10 6 (low_zero a)

pub low_all : (a : List Float) → total_to (lowered a (shape2 a)).pulses 16 ≤ 8
low_all a = le_trans (le_of_eq (low_same a)) (low_total a)

pub one_length : (a : List Float) → length (shape1 a).pulses ≡ 16
unfolding shape1
one_length a = up_length a 9 10 (lowered a (shape2 a)) ∙ low_length a

pub one_low : (a : List Float) → total_to (shape1 a).pulses 10 ≡ 10
unfolding shape1
one_low a = up_total a 9 10 (lowered a (shape2 a)) (le_trans (lit≤ tt) (le_of_eq (sym (low_length a)))) (le_trans (low_total a) (lit≤ tt))

pub one_zero : (a : List Float) (i : ℕ) → 10 ≤ i → i < 16 → get_or (shape1 a).pulses i 0 ≡ 0
unfolding shape1
one_zero a i h k =
    more_past a 9 10 (lit< tt) (missing 9 10 (lowered a (shape2 a))) (lowered a (shape2 a)) i h ∙ low_zero a i h k

pub one_total : (a : List Float) → total_to (shape1 a).pulses 16 ≡ 10
one_total a = sum_flat (λ w. w) refl (shape1 a).pulses 10 6 (one_zero a) ∙ one_low a

-- ---- shape 0: shape 1's ten and one pulse at a place from 10 to 15
pub largest_range : (a : List Float) (n : ℕ) → (10 ≤ largest_to a n) × (largest_to a n ≤ 10 + n)
unfolding largest_to
largest_range a n = (from _, to _ (scan_under (λ n best. lt (get_or a (10 + best) nan) (get_or a (10 + n) nan)) n))
  where
    from : (k : ℕ) → 10 ≤ 10 + k
    from k = omega arith

    to : (k : ℕ) → k ≤ n → 10 + k ≤ 10 + n
    to k h = omega arith

pub largest_under : (a : List Float) → largest_to a 5 < 16
largest_under a = omega (arith, (largest_range a 5).1)

pub zero_length : (a : List Float) → length (shape0 a) ≡ 16
unfolding shape0
zero_length a = length-set (shape1 a).pulses (largest_to a 5) 1 ∙ one_length a

pub zero_low : (a : List Float) → total_to (shape0 a) 10 ≡ 10
unfolding shape0
zero_low a = sum_past (λ w. w) (shape1 a).pulses (largest_to a 5) 1 10 (largest_range a 5).0 ∙ one_low a

-- its pulse stands where shape 1 has none
zero_sum : (f : ℕ → ℕ) → f 0 ≡ 0 → f 1 ≡ 1 → (a : List Float) → sum_over f (shape0 a) 16 ≡ sum_over f (shape1 a).pulses 16 + 1
unfolding shape0
zero_sum f z o a =
    let b = largest_to a 5 in
    let u : f (get_or (shape1 a).pulses b 0) ≡ 0 = ap f (one_zero a b (largest_range a 5).0 (largest_under a)) ∙ z in
    omega (arith, u, o, sum_set f (shape1 a).pulses b 1 16 (largest_under a) (subst (λ (n : ℕ). b < n) (sym (one_length a)) (largest_under a)))

pub zero_total : (a : List Float) → total_to (shape0 a) 16 ≡ 11
zero_total a = zero_sum (λ w. w) refl refl a ∙ ap (λ (n : ℕ). n + 1) (one_total a)
