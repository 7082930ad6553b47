-- How many places pass a test. Assumes nothing.
use mathlib.Core.Path.{◌≡◌, refl, sym, ap, ◌∙◌, subst}
use mathlib.Core.Logic.{inl, inr}
use mathlib.Core.Bool.{Bool, true, false, cond}
use Prim.Native.Nat.{ℕ, zero, suc, ◌+◌, ◌≤◌, ◌<◌}
use native.Mathlib.Nat.{le_trans, le_of_suc-le-suc, eq-or-lt_of_le, not-suc-le-zero}
use native.Mathlib.Numerals.{add-one}
use native.Mathlib.Omega.{arith}
use Rattle.pulse_guess.specs.Lanes.{count_to}

pub count_yes : (f : ℕ → Bool) (n c : ℕ) → c ≡ count_to f n → f n ≡ true → c + 1 ≡ count_to f (n + 1)
unfolding count_to
count_yes f n c e h = rw (add-one n) (ap (λ (k : ℕ). k + 1) e ∙ sym (ap (λ (b : Bool). count_to f n + cond b 1 0) h))

pub count_no : (f : ℕ → Bool) (n c : ℕ) → c ≡ count_to f n → f n ≡ false → c ≡ count_to f (n + 1)
unfolding count_to
count_no f n c e h = rw (add-one n) (e ∙ plus (count_to f n) ∙ sym (ap (λ (b : Bool). count_to f n + cond b 1 0) h))
  where
    plus : (a : ℕ) → a ≡ a + 0
    plus a = omega arith

-- one that passes is counted
counted : (f : ℕ → Bool) (n k : ℕ) → k < n → f k ≡ true → 1 ≤ count_to f n
unfolding count_to
counted f zero k h t = absurd (not-suc-le-zero h)
counted f (suc n) k h t =
    elim (eq-or-lt_of_le (le_of_suc-le-suc h)) [
      | inl e ↦ subst (λ (b : Bool). 1 ≤ count_to f n + cond b 1 0) (sym (subst (λ (j : ℕ). f j ≡ true) e t)) (last (count_to f n))
      | inr l ↦ le_trans (counted f n k l t) (more (count_to f n) (cond (f n) 1 0))
    ]
  where
    last : (a : ℕ) → 1 ≤ a + 1
    last a = omega arith

    more : (a b : ℕ) → a ≤ a + b
    more a b = omega arith

-- and so are two
two_counted : (f : ℕ → Bool) (n g k : ℕ) → k < g → g < n → f g ≡ true → f k ≡ true → 2 ≤ count_to f n
unfolding count_to
two_counted f zero g k l h s t = absurd (not-suc-le-zero h)
two_counted f (suc n) g k l h s t =
    elim (eq-or-lt_of_le (le_of_suc-le-suc h)) [
      | inl e ↦
          subst (λ (b : Bool). 2 ≤ count_to f n + cond b 1 0) (sym (subst (λ (j : ℕ). f j ≡ true) e s))
          (last (count_to f n) (counted f n k (subst (λ (j : ℕ). k < j) e l) t))
      | inr i ↦ le_trans (two_counted f n g k l i s t) (more (count_to f n) (cond (f n) 1 0))
    ]
  where
    last : (a : ℕ) → 1 ≤ a → 2 ≤ a + 1
    last a h = omega arith

    more : (a b : ℕ) → a ≤ a + b
    more a b = omega arith

-- where one passes and one is counted, no other passes
pub only_one : (f : ℕ → Bool) (n g : ℕ) → count_to f n ≡ 1 → g < n → f g ≡ true → (k : ℕ) → k < n → (k ≡ g → ⊥) → f k ≡ false
only_one f n g e h s k l d = go (f k) refl
  where
    clash : {c : ℕ} → c ≡ 1 → 2 ≤ c → ⊥
    clash a b = omega arith

    later : (k g : ℕ) → (k ≡ g → ⊥) → (k < g → ⊥) → g < k
    later k g d n = omega arith

    go : (b : Bool) → f k ≡ b → f k ≡ false
    go false t = t
    go true t = absurd (clash e (two_counted f n k g (later k g d (λ (i : k < g). clash e (two_counted f n g k i h s t))) l t s))
