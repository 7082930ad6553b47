-- The absolute value as a program works it out, by the tests x < 0.0 and x == 0.0, and what it keeps: the kind, the size, no minus sign. Assumes nothing.
use mathlib.Core.Path.{◌≡◌, refl, sym, ap, ◌∙◌}
use mathlib.Core.Bool.{Bool, true, false, not, ◌&&◌, ◌||◌, beq}
use Prim.Native.Nat.{ℕ, zero, suc, ◌+◌, ◌*◌, ◌^◌, ◌≤◌, ◌<◌}
use native.Mathlib.Omega.{arith}
use native.Mathlib.Nat.{pow-suc, mul-pos, zero-mul, zero-lt-suc}
use lib.Dec.{T, ltb, eqb, ltb→lt, nltb→le, eqb→eq, not_T, T_not}
use lib.IntN.{ℤ, pos, negsuc}
use lib.Ieee.{Float, nan, inf, fin, Format, up, down, neg, lt, eq, fits, is_nan}
use lib.Ieee.Fits.{up_pos, and_l, eq→eqb}
use Rattle.float_laws.specs.Kind.{finite, plain}
use Rattle.float_laws.specs.Size.{Within}
use Rattle.float_laws.specs.Absolute.{abs_of}
use Rattle.float_laws.proofs.Logic.{no}

-- ---- what it keeps
pub abs_finite : (x : Float) → T (finite x) → T (finite (abs_of x))
unfolding abs_of
abs_finite nan h = h
abs_finite (inf s) h = h
abs_finite (fin s m e) h = h

pub abs_plain : (x : Float) → T (not (is_nan x)) → T (plain (abs_of x))
unfolding abs_of is_nan
abs_plain nan h = h
abs_plain (inf s) h = tt
abs_plain (fin s m e) h = tt

pub abs_within : (x : Float) (a c : ℕ) → Within x a c → Within (abs_of x) a c
unfolding abs_of
abs_within nan a c h = h
abs_within (inf s) a c h = h
abs_within (fin s m e) a c h = h

-- ---- a value that is no NaN and has no minus sign is not below zero
pub not_minus : (p : Float) → T (plain p) → T (not (lt p (fin false 0 (pos 0))))
unfolding lt
not_minus nan u = absurd u
not_minus (inf true) u = absurd u
not_minus (inf false) u = tt
not_minus (fin true m e) u = absurd u
not_minus (fin false m e) u = not_T (ltb (m * up e * 1) (0 * down e)) (λ (t : T (ltb (m * up e * 1) (0 * down e))). clash (ltb→lt (m * up e * 1) (0 * down e) t) (zero-mul (down e)))
  where
    clash : {a b : ℕ} → a < b → b ≡ 0 → ⊥
    clash h e = omega arith

-- ---- the three ways through the tests
-- a zero that fits is written with the exponent 0
zero_exp : (e : ℤ) → up e * down e ≡ 1 → e ≡ pos 0
zero_exp (pos zero) h = refl
zero_exp (pos (suc k)) h = absurd (two_one (2 ^ k) (sym (ap (λ (z : ℕ). z * 1) (pow-suc 2 k)) ∙ h))
  where
    two_one : (x : ℕ) → x * 2 * 1 ≡ 1 → ⊥
    two_one x h = omega arith
zero_exp (negsuc k) h = absurd (two_one (2 ^ k) (sym (ap (λ (z : ℕ). 1 * z) (pow-suc 2 k)) ∙ h))
  where
    two_one : (x : ℕ) → 1 * (x * 2) ≡ 1 → ⊥
    two_one x h = omega arith

pub abs_minus : (x : Float) → T (lt x (fin false 0 (pos 0))) → neg x ≡ abs_of x
unfolding lt neg abs_of
abs_minus nan h = absurd h
abs_minus (inf true) h = refl
abs_minus (inf false) h = absurd h
abs_minus (fin true m e) h = refl
abs_minus (fin false m e) h = absurd (T_not (ltb (m * up e * 1) (0 * down e)) (not_minus (fin false m e) tt) h)

pub abs_zero : (f : Format) (x : Float) → T (fits f x) → T (eq x (fin false 0 (pos 0))) → fin false 0 (pos 0) ≡ abs_of x
unfolding eq abs_of fits
abs_zero f nan g h = absurd h
abs_zero f (inf s) g h = absurd h
abs_zero f (fin s zero e) g h = ap (fin false 0) (sym (zero_exp e (eqb→eq (up e * down e) 1 g)))
abs_zero f (fin s (suc m) e) g h = absurd (clash (suc m * up e) (0 * down e) (mul-pos (zero-lt-suc m) (up_pos e)) (eqb→eq (suc m * up e * 1) (0 * down e) (and_l (eqb (suc m * up e * 1) (0 * down e)) (beq s false || eqb (suc m * up e * 1) 0) h)) (zero-mul (down e)))
  where
    clash : (a z : ℕ) → 0 < a → a * 1 ≡ z → z ≡ 0 → ⊥
    clash a z k e f = omega arith

pub abs_plus : (x : Float) → lt x (fin false 0 (pos 0)) ≡ false → eq x (fin false 0 (pos 0)) ≡ false → x ≡ abs_of x
unfolding lt eq abs_of
abs_plus nan h k = refl
abs_plus (inf true) h k = absurd (no h)
abs_plus (inf false) h k = refl
abs_plus (fin false m e) h k = refl
abs_plus (fin true m e) h k = absurd (clash (m * up e * 1) (0 * down e) (zero-mul (down e)) (no h) (no k))
  where
    sums : (a b : ℕ) → b ≡ 0 → a + b ≤ 0 → (a ≡ 0) × (a ≡ b)
    sums a b e g = (omega arith, omega arith)

    two : (a b : Bool) → T a → T b → T (not (a && (false || b))) → ⊥
    two true true s t n = n
    two true false s t n = absurd t
    two false b s t n = absurd s

    clash : (a b : ℕ) → b ≡ 0 → T (not (ltb 0 (a + b))) → T (not (eqb a b && (false || eqb a 0))) → ⊥
    clash a b z u v =
        let w = sums a b z (nltb→le 0 (a + b) u) in
        two (eqb a b) (eqb a 0) (eq→eqb w.1) (eq→eqb w.0) v
