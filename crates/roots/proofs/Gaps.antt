-- The f32s next to M / 2 ^ j, for an M of 24 binary digits: a smaller one is at most (M - 1) / 2 ^ j, a larger one at least (M + 1) / 2 ^ j. Assumes nothing.
use mathlib.Core.Path.{◌≡◌, refl, sym, ap, ◌∙◌}
use mathlib.Core.Logic.{◌⊎◌, inl, inr}
use mathlib.Core.Bool.{Bool, true, false, ◌&&◌}
use Prim.Native.Nat.{ℕ, zero, suc, ◌+◌, ◌-◌, ◌*◌, ◌^◌, ◌%◌, ◌≤◌, ◌<◌}
use native.Mathlib.Nat.{le_trans, le_of_eq, lt_of_lt_of_le, lt_of_le_of_lt, mul_comm, mul_assoc, mul_right_comm, mul-one, mul-le-mul, mul-le-mul_right, mul-lt-mul_of_pos_right, lt_of_mul-lt-mul_right, le_of_lt, pow-suc, pow-le-pow_right}
use lib.Pow.{pow-add, pow_pos}
use native.Mathlib.Omega.{arith}
use borrow.Author.Tests.{leb-true, leb-false}
use lib.Dec.{T, ltb, leb, eqb, ltb→lt, lit<}
use lib.IntN.{ℤ, pos, negsuc}
use lib.Ieee.{Float, nan, inf, fin, binary32, up, down, low, emax, lt, fits}
use lib.Ieee.Fits.{and_l, and_r}
use Rattle.float_laws.specs.Fraction.{numerator, denominator, positive}

-- a significand has at most 24 binary digits
digits : (s : Bool) (m : ℕ) (e : ℤ) → T (fits binary32 (fin s m e)) → m < 2 ^ 24
unfolding fits
digits s zero e t = pow_pos 24
digits s (suc m) e t =
    ltb→lt (suc m) (2 ^ 24)
    (and_r (eqb (suc m % 2) 1) (ltb (suc m) (2 ^ 24))
    (and_l (eqb (suc m % 2) 1 && ltb (suc m) (2 ^ 24)) (leb (down e) (2 ^ low binary32))
    (and_l (eqb (suc m % 2) 1 && ltb (suc m) (2 ^ 24) && leb (down e) (2 ^ low binary32)) (ltb (suc m * up e) (2 ^ suc (emax binary32) * down e)) t)))

-- 2 ^ j is a multiple of 2 ^ k, or 2 ^ k is at least twice 2 ^ j
aligned : (j k : ℕ) → ((t : ℕ) × (2 ^ j ≡ t * 2 ^ k)) ⊎ (2 * 2 ^ j ≤ 2 ^ k)
aligned j k = go (leb k j) refl
  where
    go : (b : Bool) → leb k j ≡ b → ((t : ℕ) × (2 ^ j ≡ t * 2 ^ k)) ⊎ (2 * 2 ^ j ≤ 2 ^ k)
    go true e = inl (2 ^ (j - k), ap (λ (i : ℕ). 2 ^ i) (whole (leb-true k j e)) ∙ pow-add 2 (j - k) k)
      where
        whole : k ≤ j → j ≡ j - k + k
        whole h = omega arith
    go false e = inr (le_trans (le_of_eq (sym (pow_suc' j))) (pow-le-pow_right (lit< tt) (leb-false k j e)))
      where
        pow_suc' : (i : ℕ) → 2 ^ suc i ≡ 2 * 2 ^ i
        pow_suc' i = pow-suc 2 i ∙ mul_comm (2 ^ i) 2

-- r = w / 2 ^ j, and w has 24 binary digits
pub record Placed (w j : ℕ) (r : Float) : Type 0 where
  pub value : numerator r * 2 ^ j ≡ w * denominator r
  pub large : 2 ^ 23 ≤ w
  pub plus : T (positive r)

module _ (w j : ℕ) (r : Float) (p : Placed w j r) where
  -- r * c, in units of 2 ^ -j
  pub units : (c : ℕ) → numerator r * c * 2 ^ j ≡ w * c * denominator r
  units c = mul_right_comm (numerator r) c (2 ^ j) ∙ ap (λ (i : ℕ). i * c) p.value ∙ mul_right_comm w (denominator r) c

  -- a fraction a / c below r, and above it
  pub scaled_under : (a c : ℕ) → a * denominator r < numerator r * c → a * 2 ^ j < w * c
  scaled_under a c h =
      lt_of_mul-lt-mul_right (denominator r)
      (lt_of_le_of_lt (le_of_eq (mul_right_comm a (2 ^ j) (denominator r))) (lt_of_lt_of_le (mul-lt-mul_of_pos_right h (pow_pos j)) (le_of_eq (units c))))

  scaled_over : (a c : ℕ) → numerator r * c < a * denominator r → w * c < a * 2 ^ j
  scaled_over a c h =
      lt_of_mul-lt-mul_right (denominator r)
      (lt_of_le_of_lt (le_of_eq (sym (units c))) (lt_of_lt_of_le (mul-lt-mul_of_pos_right h (pow_pos j)) (le_of_eq (mul_right_comm a (denominator r) (2 ^ j)))))

double : (i : ℕ) → 2 ^ 24 * i ≡ 2 ^ 23 * (2 * i)
double i = omega arith

-- m / 2 ^ k of at most 24 digits, below w / 2 ^ j and above it
under_step : (m k w j : ℕ) → m < 2 ^ 24 → 2 ^ 23 < w → m * 2 ^ j < w * 2 ^ k → m * 2 ^ j ≤ (w - 1) * 2 ^ k
under_step m k w j h l u = elim (aligned j k) [
  | inl a ↦ multiple a.0 a.1
  | inr g ↦ le_trans (mul-le-mul_right (2 ^ j) (le_of_lt h)) (le_trans (le_of_eq (double (2 ^ j))) (mul-le-mul (pred l) g))
]
  where
    multiple : (t : ℕ) → 2 ^ j ≡ t * 2 ^ k → m * 2 ^ j ≤ (w - 1) * 2 ^ k
    multiple t e =
        let f : m * 2 ^ j ≡ m * t * 2 ^ k = ap (λ (i : ℕ). m * i) e ∙ sym (mul_assoc m t (2 ^ k)) in
        let s : m * t < w = lt_of_mul-lt-mul_right (2 ^ k) (lt_of_le_of_lt (le_of_eq (sym f)) u) in
        le_trans (le_of_eq f) (mul-le-mul_right (2 ^ k) (less (m * t) s))
      where
        less : (i : ℕ) → i < w → i ≤ w - 1
        less i q = omega arith

    pred : 2 ^ 23 < w → 2 ^ 23 ≤ w - 1
    pred q = omega arith

over_step : (m k w j : ℕ) → m < 2 ^ 24 → 2 ^ 23 ≤ w → w * 2 ^ k < m * 2 ^ j → (w + 1) * 2 ^ k ≤ m * 2 ^ j
over_step m k w j h l u = elim (aligned j k) [
  | inl a ↦ multiple a.0 a.1
  | inr g ↦ absurd (never (m * 2 ^ j) (w * 2 ^ k) u (le_trans (mul-le-mul_right (2 ^ j) (le_of_lt h)) (le_trans (le_of_eq (double (2 ^ j))) (mul-le-mul l g))))
]
  where
    multiple : (t : ℕ) → 2 ^ j ≡ t * 2 ^ k → (w + 1) * 2 ^ k ≤ m * 2 ^ j
    multiple t e =
        let f : m * 2 ^ j ≡ m * t * 2 ^ k = ap (λ (i : ℕ). m * i) e ∙ sym (mul_assoc m t (2 ^ k)) in
        let s : w < m * t = lt_of_mul-lt-mul_right (2 ^ k) (lt_of_lt_of_le u (le_of_eq f)) in
        le_trans (mul-le-mul_right (2 ^ k) (more (m * t) s)) (le_of_eq (sym f))
      where
        more : (i : ℕ) → w < i → w + 1 ≤ i
        more i q = omega arith

    never : (a b : ℕ) → b < a → a ≤ b → ⊥
    never a b x y = omega arith

-- ---- the two laws

-- x < y of two values that are not below zero
pub cross : (x y : Float) → T (positive x) → T (positive y) → T (lt x y) → numerator x * denominator y < numerator y * denominator x
unfolding lt
cross nan y p q h = absurd p
cross (inf s) y p q h = absurd p
cross (fin s m e) nan p q h = absurd q
cross (fin s m e) (inf t) p q h = absurd q
cross (fin true m e) (fin t n d) p q h = absurd p
cross (fin false m e) (fin true n d) p q h = absurd q
cross (fin false m e) (fin false n d) p q h = ltb→lt (m * up e * down d) (n * up d * down e) h

module _ (w j : ℕ) (r : Float) (p : Placed w j r) where
  -- every smaller f32 that is not below zero
  pub next_below : (x : Float) → T (fits binary32 x) → T (positive x) → 2 ^ 23 < w → T (lt x r) → numerator x * 2 ^ j ≤ (w - 1) * denominator x
  next_below nan f q l h = absurd q
  next_below (inf s) f q l h = absurd q
  next_below (fin s m (pos k)) f q l h = whole (m * 2 ^ k * 2 ^ j) (scaled_under w j r p (m * 2 ^ k) 1 (cross (fin s m (pos k)) r q p.plus h))
    where
      whole : (i : ℕ) → i < w * 1 → i ≤ (w - 1) * 1
      whole i u = omega arith
  next_below (fin s m (negsuc k)) f q l h =
      le_trans (le_of_eq one)
      (under_step m (suc k) w j (digits s m (negsuc k) f) l
      (lt_of_le_of_lt (le_of_eq (sym one)) (scaled_under w j r p (m * 1) (2 ^ suc k) (cross (fin s m (negsuc k)) r q p.plus h))))
    where
      one : m * 1 * 2 ^ j ≡ m * 2 ^ j
      one = ap (λ (i : ℕ). i * 2 ^ j) (mul-one m)

  -- every larger one
  pub next_above : (x : Float) → T (fits binary32 x) → T (positive x) → T (lt r x) → (w + 1) * denominator x ≤ numerator x * 2 ^ j
  next_above nan f q h = absurd q
  next_above (inf s) f q h = absurd q
  next_above (fin s m (pos k)) f q h = whole (m * 2 ^ k * 2 ^ j) (scaled_over w j r p (m * 2 ^ k) 1 (cross r (fin s m (pos k)) p.plus q h))
    where
      whole : (i : ℕ) → w * 1 < i → (w + 1) * 1 ≤ i
      whole i u = omega arith
  next_above (fin s m (negsuc k)) f q h =
      le_trans
      (over_step m (suc k) w j (digits s m (negsuc k) f) p.large
      (lt_of_lt_of_le (scaled_over w j r p (m * 1) (2 ^ suc k) (cross r (fin s m (negsuc k)) p.plus q h)) (le_of_eq one)))
      (le_of_eq (sym one))
    where
      one : m * 1 * 2 ^ j ≡ m * 2 ^ j
      one = ap (λ (i : ℕ). i * 2 ^ j) (mul-one m)
