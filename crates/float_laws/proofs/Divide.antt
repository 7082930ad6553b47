-- A quotient by a value of at least b / d is at most (a / c) / (b / d) in size, where the format holds that bound. Assumes nothing.
use mathlib.Core.Path.{◌≡◌, sym, ap, ◌∙◌, subst}
use Prim.Native.Nat.{ℕ, ◌*◌, ◌≤◌, ◌<◌}
use native.Mathlib.Nat.{le_trans, le_of_eq, lt_of_lt_of_le, mul_comm, mul-pos, mul-le-mul, mul-mul-mul_comm}
use native.Mathlib.Omega.{arith}
use borrow.Author.Tests.{ne_eqb}
use mathlib.Core.Bool.{true, false, cond}
use lib.Dec.{T, eqb}
use lib.Ieee.{Float, nan, inf, fin, Format, up, down, unlike, div}
use lib.Ieee.Fits.{down_pos}
use lib.Ieee.Positive.{first_pos, through}
use Rattle.float_laws.specs.Size.{Within, AtLeast, exact}
use Rattle.float_laws.proofs.Size.{round_within}

-- a divisor that is not zero goes to `round`
not_zero : (n : ℕ) (x y : Float) → 0 < n → cond (eqb n 0) x y ≡ y
not_zero n x y h = rw (ne_eqb n 0 (λ (e : n ≡ 0). omega arith))

module _ (f : Format) (a c b d g h : ℕ) (C : 0 < c) (B : 0 < b) (D : 0 < d) (H : 0 < h) (x : T (exact f g h)) (l : a * d * h ≤ g * (c * b)) where
  pub div_within : (y z : Float) → Within y a c → AtLeast z b d → Within (div f y z) g h
  unfolding div
  div_within nan z v w = absurd v
  div_within (inf s) z v w = absurd v
  div_within (fin s m e) nan v w = absurd w
  div_within (fin s m e) (inf t) v w = absurd w
  div_within (fin s m e) (fin true n k) v w = absurd w
  div_within (fin s m e) (fin false n k) v w =
      let P : 0 < n * up k = first_pos (n * up k) d (lt_of_lt_of_le (mul-pos B (down_pos k)) w) in
      subst (λ (r : Float). Within r g h) (sym (not_zero n _ _ (first_pos n (up k) P)))
      (round_within f (unlike s false) (m * up e * down k) (n * up k * down e) g h (mul-pos P (down_pos e)) H x
      (through (m * up e * down k) (a * d) g (n * up k * down e) (c * b) h (mul-pos C B) (cross (m * up e) (n * up k) (down e) (down k) v w) l))
    where
      -- (p / de) / (q / dk), with p / de ≤ a / c and b / d ≤ q / dk
      cross : (p q de dk : ℕ) → p * c ≤ a * de → b * dk ≤ q * d → p * dk * (c * b) ≤ a * d * (q * de)
      cross p q de dk v w =
          le_trans (le_of_eq (mul-mul-mul_comm p dk c b ∙ ap (λ (i : ℕ). p * c * i) (mul_comm dk b)))
          (le_trans (mul-le-mul v w) (le_of_eq (ap (λ (i : ℕ). a * de * i) (mul_comm q d) ∙ mul-mul-mul_comm a de d q ∙ ap (λ (i : ℕ). a * d * i) (mul_comm de q))))
