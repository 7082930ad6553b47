-- A value from k up to below k + 1 is k, rounded down. Assumes nothing.
use mathlib.Core.Path.{◌≡◌, sym, ap, ◌∙◌}
use mathlib.Core.Bool.{true, false, not}
use Prim.Native.Nat.{ℕ, ◌+◌, ◌*◌, ◌/◌, ◌≤◌, ◌<◌}
use native.Mathlib.Omega.{arith}
use native.Mathlib.Nat.{le-div_iff_mul-le, div-lt_iff_lt-mul, le_of_eq, le_trans, lt_of_lt_of_le, mul_right_comm, lt_of_mul-lt-mul_right, le_of_mul-le-mul_right}
use lib.Dec.{T, ltb, ltb→lt, nltb→le}
use lib.IntN.{ℤ}
use lib.Ieee.{Float, nan, inf, fin, up, down, lt}
use lib.Ieee.Fits.{down_pos}
use Rattle.float_laws.specs.Kind.{finite}
use Rattle.float_laws.specs.Floor.{floor_of}
use Rattle.float_laws.proofs.Unsigned.{unsigned}

-- p below k, and p not below k, where n · 2 ^ d is k
module _ (n : ℕ) (d : ℤ) (k : ℕ) (q : n * up d ≡ k * down d) where
  under : (m : ℕ) (e : ℤ) → T (ltb (m * up e * down d) (n * up d * down e)) → m * up e < k * down e
  under m e t =
      lt_of_mul-lt-mul_right (down d)
      (lt_of_lt_of_le (ltb→lt (m * up e * down d) (n * up d * down e) t) (le_of_eq (ap (λ (z : ℕ). z * down e) q ∙ mul_right_comm k (down d) (down e))))

  over : (m : ℕ) (e : ℤ) → T (not (ltb (m * up e * down d) (n * up d * down e))) → k * down e ≤ m * up e
  over m e t =
      le_of_mul-le-mul_right
      (le_trans (le_of_eq (mul_right_comm k (down e) (down d) ∙ ap (λ (z : ℕ). z * down e) (sym q))) (nltb→le (m * up e * down d) (n * up d * down e) t)) (down_pos d)

quotient : (x d k : ℕ) → 0 < d → k * d ≤ x → x < (k + 1) * d → x / d ≡ k
quotient x d k D h l =
    let u : k ≤ x / d = (le-div_iff_mul-le D).1 h in
    let v : x / d < k + 1 = (div-lt_iff_lt-mul D).1 l in
    omega arith

-- k is n · 2 ^ d, and k + 1 is j · 2 ^ f
pub floor_is : (k n j : ℕ) (d f : ℤ) → n * up d ≡ k * down d → j * up f ≡ (k + 1) * down f → (p : Float) → T (unsigned p) → T (not (lt p (fin false n d))) → T (lt p (fin false j f))
    → T (finite p) × (floor_of p ≡ k)
unfolding lt floor_of unsigned
floor_is k n j d f q r nan u v w = absurd w
floor_is k n j d f q r (inf true) u v w = absurd u
floor_is k n j d f q r (inf false) u v w = absurd w
floor_is k n j d f q r (fin true m e) u v w = absurd u
floor_is k n j d f q r (fin false m e) u v w = (tt, quotient (m * up e) (down e) k (down_pos e) (over n d k q m e v) (under j f (k + 1) r m e w))
