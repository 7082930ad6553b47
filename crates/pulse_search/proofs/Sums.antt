-- Sums over the places of a row of pulses, for any f of a place: one place more, one place changed, zeros. Then totals and squares. Assumes nothing.
use mathlib.Core.Path.{◌≡◌, refl, sym, ap, ◌∙◌, subst}
use mathlib.Core.List.{List}
use mathlib.Core.Logic.{◌⊎◌, inl, inr}
use Prim.Native.Nat.{ℕ, zero, suc, ◌+◌, ◌*◌, ◌≤◌, ◌<◌}
use native.Mathlib.Nat.{le_refl, le_trans, le-suc, le_of_eq, eq-or-lt_of_le, le_of_suc-le-suc, not-suc-le-zero, mul-one, one-mul, add-mul, mul-add, mul-le-mul_left}
use native.Mathlib.Omega.{arith}
use borrow.Author.Rules.{read_below, read_above}
use lib.ListN.{length, get_or, set}
use lib.Seq.{get_or-set_same}
use Rattle.pulse_search.specs.Pulse.{sum_over, total_to, square_to}

-- one place less, or this one
pub suc_cases : (b n : ℕ) → b < suc n → (b ≡ n) ⊎ (b < n)
suc_cases b n h = eq-or-lt_of_le (le_of_suc-le-suc h)

module _ (f : ℕ → ℕ) where
  pub sum_zero : (y : List ℕ) → sum_over f y 0 ≡ 0
  unfolding sum_over
  sum_zero y = refl

  pub sum_suc : (y : List ℕ) (n : ℕ) → sum_over f y (suc n) ≡ sum_over f y n + f (get_or y n 0)
  unfolding sum_over
  sum_suc y n = refl

  -- a place counts
  pub sum_place : (y : List ℕ) (b n : ℕ) → b < n → f (get_or y b 0) ≤ sum_over f y n
  sum_place y b zero h = absurd (not-suc-le-zero h)
  sum_place y b (suc n) h =
      elim (suc_cases b n h) [
        | inl e ↦ rw (e, sum_suc) (omega arith)
        | inr l ↦ omega (arith, sum_suc y n, sum_place y b n l)
      ]

  -- rows with the same places
  pub sum_same : (x y : List ℕ) (n : ℕ) → ((i : ℕ) → i < n → get_or x i 0 ≡ get_or y i 0) → sum_over f x n ≡ sum_over f y n
  sum_same x y zero h = sum_zero x ∙ sym (sum_zero y)
  sum_same x y (suc n) h = omega (arith, sum_suc x n, sum_suc y n, sum_same x y n (λ i l. h i (le_trans l (le-suc n))), ap f (h n (le_refl (suc n))))

  -- a place at or past n does not count
  pub sum_past : (y : List ℕ) (b v n : ℕ) → n ≤ b → sum_over f (set y b v) n ≡ sum_over f y n
  sum_past y b v n h = sum_same (set y b v) y n (λ i l. read_below ℕ y b i v 0 (get_or y i 0) (le_trans l h) refl)

  -- another v at place b takes the place of what stood there
  pub sum_set : (y : List ℕ) (b v n : ℕ) → b < n → b < length y → sum_over f (set y b v) n + f (get_or y b 0) ≡ sum_over f y n + f v
  sum_set y b v zero h l = absurd (not-suc-le-zero h)
  sum_set y b v (suc n) h l =
      elim (suc_cases b n h) [
        | inl e ↦
            omega (
              arith,
              sum_suc (set y b v) n,
              sum_suc y n,
              sum_past y b v n (le_of_eq (sym e)),
              ap f (subst (λ (k : ℕ). get_or (set y b v) k 0 ≡ v) e (get_or-set_same y b v 0 l)),
              ap (λ (k : ℕ). f (get_or y k 0)) e,
            )
        | inr k ↦
            omega (arith, sum_suc (set y b v) n, sum_suc y n, sum_set y b v n k l, ap f (read_above ℕ y b n v 0 (get_or y n 0) k refl))
      ]

  pub sum_grow : (y : List ℕ) (n k : ℕ) → sum_over f y n ≤ sum_over f y (n + k)
  sum_grow y n zero = le_of_eq (ap (sum_over f y) (plus_zero n))
    where
      plus_zero : (n : ℕ) → n ≡ n + 0
      plus_zero n = omega arith
  sum_grow y n (suc k) = omega (arith, sum_grow y n k, ap (sum_over f y) (plus_suc n k), sum_suc y (n + k))
    where
      plus_suc : (n k : ℕ) → n + suc k ≡ suc (n + k)
      plus_suc n k = omega arith

  -- zeros from n on add nothing
  pub sum_flat : f 0 ≡ 0 → (y : List ℕ) (n k : ℕ) → ((i : ℕ) → n ≤ i → i < n + k → get_or y i 0 ≡ 0) → sum_over f y (n + k) ≡ sum_over f y n
  sum_flat z y n zero h = ap (sum_over f y) (plus_zero n)
    where
      plus_zero : (n : ℕ) → n + 0 ≡ n
      plus_zero n = omega arith
  sum_flat z y n (suc k) h =
      omega (arith, ap (sum_over f y) (plus_suc n k), sum_suc y (n + k), ap f (h (n + k) (grow n k) (grow' n k)) ∙ z, sum_flat z y n k (λ i l j. h i l (wider i n k j)))
    where
      plus_suc : (n k : ℕ) → n + suc k ≡ suc (n + k)
      plus_suc n k = omega arith

      grow : (n k : ℕ) → n ≤ n + k
      grow n k = omega arith

      grow' : (n k : ℕ) → n + k < n + suc k
      grow' n k = omega arith

      wider : (i n k : ℕ) → i < n + k → i < n + suc k
      wider i n k h = omega arith

-- ---- totals
pub total_suc : (y : List ℕ) (n : ℕ) → total_to y (suc n) ≡ total_to y n + get_or y n 0
total_suc y n = sum_suc (λ w. w) y n

pub total_zero : (y : List ℕ) → total_to y 0 ≡ 0
total_zero y = sum_zero (λ w. w) y

pub place_le : (y : List ℕ) (b n : ℕ) → b < n → get_or y b 0 ≤ total_to y n
place_le y b n h = sum_place (λ w. w) y b n h

pub total_one : (y : List ℕ) (b n : ℕ) → b < n → b < length y → total_to (set y b (get_or y b 0 + 1)) n ≡ total_to y n + 1
total_one y b n h l = omega (arith, sum_set (λ w. w) y b (get_or y b 0 + 1) n h l)

-- ---- squares
square_next : (w : ℕ) → (w + 1) * (w + 1) ≡ w * w + (2 * w + 1)
square_next w = omega (arith, add-mul w 1 (w + 1), mul-add w w 1, mul-one w, one-mul (w + 1))

-- (w + 1)² = w² + 2w + 1: what one pulse more at a place adds
pub square_more : (y : List ℕ) (b n : ℕ) → b < n → b < length y → square_to (set y b (get_or y b 0 + 1)) n ≡ square_to y n + (2 * get_or y b 0 + 1)
square_more y b n h l = omega (arith, sum_set (λ w. w * w) y b (get_or y b 0 + 1) n h l, square_next (get_or y b 0))

self_square : (x : ℕ) → x ≤ x * x
self_square zero = le_refl 0
self_square (suc x) = le_trans (le_of_eq (sym (mul-one (suc x)))) (mul-le-mul_left (suc x) (one_of x))
  where
    one_of : (x : ℕ) → 1 ≤ suc x
    one_of x = omega arith

-- at least the total, and at most its square
pub square_low : (y : List ℕ) (n : ℕ) → total_to y n ≤ square_to y n
square_low y zero = le_of_eq (total_zero y ∙ sym (sum_zero (λ w. w * w) y))
square_low y (suc n) = omega (arith, total_suc y n, sum_suc (λ w. w * w) y n, square_low y n, self_square (get_or y n 0))

both_squares : (a s t : ℕ) → s ≤ t * t → s + a * a ≤ (t + a) * (t + a)
both_squares a s t h =
    le_trans (add_le s (t * t) (a * a) h) (le_trans (wider (t * t) (a * a) (t * a) (a * t)) (le_of_eq (sym (add-mul t a (t + a) ∙ sums (mul-add t t a) (mul-add a t a)))))
  where
    add_le : (s u v : ℕ) → s ≤ u → s + v ≤ u + v
    add_le s u v h = omega arith

    wider : (p q r w : ℕ) → p + q ≤ (p + r) + (w + q)
    wider p q r w = omega arith

    sums : {x x' z z' : ℕ} → x ≡ x' → z ≡ z' → x + z ≡ x' + z'
    sums e f = omega arith

pub square_high : (y : List ℕ) (n : ℕ) → square_to y n ≤ total_to y n * total_to y n
square_high y zero = le_of_eq (sum_zero (λ w. w * w) y ∙ sym (ap (λ (z : ℕ). z * z) (total_zero y)))
square_high y (suc n) =
    le_trans (le_of_eq (sum_suc (λ w. w * w) y n)) (le_trans (both_squares (get_or y n 0) (square_to y n) (total_to y n) (square_high y n)) (le_of_eq (sym (ap (λ (z : ℕ). z * z) (total_suc y n)))))
