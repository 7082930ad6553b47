-- A test that passes nowhere fails at each number, as a loop finds it, and one test or the other. Assumes nothing.
use mathlib.Core.Path.{◌≡◌, refl, sym, ap, ◌∙◌, subst}
use mathlib.Core.Logic.{inl, inr}
use mathlib.Core.Bool.{Bool, true, false, ◌||◌}
use Prim.Native.Nat.{ℕ, zero, suc, ◌+◌, ◌<◌}
use native.Mathlib.Nat.{le_refl, le_trans, le-suc, le_of_suc-le-suc, not-suc-le-zero, eq-or-lt_of_le}
use native.Mathlib.Numerals.{add-one}
use lib.Dec.{T}
use Rattle.list_laws.specs.Some.{some_below}

pub some_none : (n : ℕ) (f : ℕ → Bool) → some_below n f ≡ false → (k : ℕ) → k < n → f k ≡ false
unfolding some_below
some_none zero f e k h = absurd (not-suc-le-zero h)
some_none (suc n) f e k h =
    elim (eq-or-lt_of_le (le_of_suc-le-suc h)) [
      | inl i ↦ subst (λ (j : ℕ). f j ≡ false) (sym i) (left (f n) (some_below n f) e)
      | inr l ↦ some_none n f (right (f n) (some_below n f) e) k l
    ]
  where
    left : (a b : Bool) → a || b ≡ false → a ≡ false
    left true b e = e
    left false b e = refl

    right : (a b : Bool) → a || b ≡ false → b ≡ false
    right true b e = absurd (subst T e tt)
    right false b e = e

-- as a loop's turn has it: the test passes at n, or it fails there
pub some_more : (n : ℕ) (f : ℕ → Bool) → f n ≡ true → true ≡ some_below (n + 1) f
unfolding some_below
some_more n f p = rw (add-one n) (sym (ap (λ (b : Bool). b || some_below n f) p))

pub some_same : (n : ℕ) (f : ℕ → Bool) (b : Bool) → b ≡ some_below n f → f n ≡ false → b ≡ some_below (n + 1) f
unfolding some_below
some_same n f b e p = rw (add-one n) (e ∙ sym (ap (λ (b : Bool). b || some_below n f) p))

-- one test or the other, place by place
pub some_or : (n : ℕ) (f g h : ℕ → Bool) → ((k : ℕ) → k < n → f k ≡ g k || h k) → some_below n f ≡ some_below n g || some_below n h
unfolding some_below
some_or zero f g h e = refl
some_or (suc n) f g h e =
    ap (λ (b : Bool). b || some_below n f) (e n (le_refl (suc n))) ∙ ap (λ (b : Bool). (g n || h n) || b) (some_or n f g h (λ k l. e k (le_trans l (le-suc n)))) ∙ swap (g n) (h n) (some_below n g) (some_below n h)
  where
    swap : (a b c d : Bool) → (a || b) || (c || d) ≡ (a || c) || (b || d)
    swap true b c d = refl
    swap false true true d = refl
    swap false true false d = refl
    swap false false true d = refl
    swap false false false d = refl
