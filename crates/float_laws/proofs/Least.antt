-- The first least of n floats, one more at a time, as a loop finds it. Assumes nothing.
use mathlib.Core.Path.{◌≡◌, sym, subst}
use Prim.Native.Nat.{ℕ, ◌+◌, ◌<◌}
use native.Mathlib.Omega.{arith}
use mathlib.Core.Bool.{Bool, true, false, not}
use lib.Dec.{T, T_not}
use lib.Ieee.{Float, lt, is_nan}
use borrow.Author.Count.{below_more}
use Rattle.float_laws.specs.Least.{FirstLeast}
use Rattle.float_laws.proofs.Order.{lt_split, lt_asym, lt_irrefl}

pub first_start : (d : ℕ → Float) → FirstLeast d 1 0
first_start d = record {
  inside = omega arith;
  first = λ i h. absurd (none i h);
  least = λ i h. subst (λ (j : ℕ). T (not (lt (d j) (d 0)))) (sym (zero_of i h)) (lt_irrefl (d 0));
}
  where
    none : (i : ℕ) → i < 0 → ⊥
    none i h = omega arith

    zero_of : (i : ℕ) → i < 1 → i ≡ 0
    zero_of i h = omega arith

module _ (d : ℕ → Float) (k b : ℕ) (h : FirstLeast d k b) where
  -- the next is not below the least so far
  pub first_keep : lt (d k) (d b) ≡ false → FirstLeast d (k + 1) b
  first_keep e = record {
    inside = grown h.inside;
    first = h.first;
    least = below_more _ _ h.least (subst (λ (t : Bool). T (not t)) (sym e) tt);
  }
    where
      grown : b < k → b < k + 1
      grown g = omega arith

  -- the next is below the least so far
  pub first_move : ((i : ℕ) → i < k → T (not (is_nan (d i)))) → lt (d k) (d b) ≡ true → FirstLeast d (k + 1) k
  first_move n e =
      let t : T (lt (d k) (d b)) = subst T (sym e) tt in
      let before : (i : ℕ) → i < k → T (lt (d k) (d i)) = λ i l. lt_split (d k) (d b) (d i) (n i l) t (h.least i l) in
      record {
        inside = omega arith;
        first = before;
        least = below_more _ _ (λ i l. lt_asym (d k) (d i) (before i l)) (lt_irrefl (d k));
      }

-- two first leasts of the same n are one: the later of two would be below the earlier, and nothing is
pub first_unique : (d : ℕ → Float) (n r s : ℕ) → FirstLeast d n r → FirstLeast d n s → r ≡ s
first_unique d n r s h k = by_neither r s (later r s h k) (later s r k h)
  where
    later : (a b : ℕ) → FirstLeast d n a → FirstLeast d n b → a < b → ⊥
    later a b u v l = T_not (lt (d b) (d a)) (u.least b v.inside) (v.first a l)

    by_neither : (a b : ℕ) → (a < b → ⊥) → (b < a → ⊥) → a ≡ b
    by_neither a b p q = omega arith
