-- What a test that passed over a whole table says of each entry. Assumes nothing.
use mathlib.Core.Path.{◌∙◌, sym, subst}
use mathlib.Core.Logic.{inl, inr}
use mathlib.Core.Bool.{Bool, true, false}
use mathlib.Core.List.{List, [], ◌∷◌}
use Prim.Native.Nat.{ℕ, zero, suc, ◌+◌, ◌<◌}
use native.Mathlib.Nat.{add-zero, zero-add, add-suc, suc-add, le_of_suc-le-suc, not-suc-le-zero, eq-or-lt_of_le}
use native.Mathlib.Omega.{arith}
use lib.Dec.{T, eqb, eqb→eq}
use lib.ListN.{length, get_or}
use Rattle.list_laws.specs.Every.{both, every_below, every, every_from, grid_from}

pub both_left : (a b : Bool) → T (both a b) → T a
both_left true b t = tt
both_left false b t = t

pub both_right : (a b : Bool) → T (both a b) → T b
both_right true b t = t
both_right false b t = absurd t

pub both_are : (a b : Bool) → T a → T b → T (both a b)
both_are true b t u = u
both_are false b t u = t

pub at_below : (n : ℕ) (f : ℕ → Bool) → T (every_below n f) → (k : ℕ) → k < n → T (f k)
at_below zero f t k h = absurd (not-suc-le-zero h)
at_below (suc n) f t k h =
    elim (eq-or-lt_of_le (le_of_suc-le-suc h)) [
      | inl e ↦ subst (λ (j : ℕ). T (f j)) (sym e) (both_left (f n) (every_below n f) t)
      | inr l ↦ at_below n f (both_right (f n) (every_below n f) t) k l
    ]

module _ {A : Type 0} (z : A) where
  pub at : (f : A → Bool) (xs : List A) → T (every f xs) → (k : ℕ) → k < length xs → T (f (get_or xs k z))
  at f [] t k h = absurd (not-suc-le-zero h)
  at f (x ∷ xs) t zero h = both_left (f x) (every f xs) t
  at f (x ∷ xs) t (suc k) h = at f xs (both_right (f x) (every f xs) t) k (le_of_suc-le-suc h)

  -- and back: a test that passes at each entry passes over all of them
  pub all : (f : A → Bool) (xs : List A) → ((k : ℕ) → k < length xs → T (f (get_or xs k z))) → T (every f xs)
  all f [] h = tt
  all f (x ∷ xs) h = both_are (f x) (every f xs) (h 0 (omega arith)) (all f xs (λ k l. h (suc k) (omega arith)))

  from : (f : ℕ → A → Bool) (xs : List A) (i : ℕ) → T (every_from f i xs) → (k : ℕ) → k < length xs → T (f (i + k) (get_or xs k z))
  from f [] i t k h = absurd (not-suc-le-zero h)
  from f (x ∷ xs) i t zero h = subst (λ (m : ℕ). T (f m x)) (sym (add-zero i)) (both_left (f i x) (every_from f (suc i) xs) t)
  from f (x ∷ xs) i t (suc k) h =
      subst (λ (m : ℕ). T (f m (get_or xs k z))) (suc-add i k ∙ sym (add-suc i k))
      (from f xs (suc i) (both_right (f i x) (every_from f (suc i) xs) t) k (le_of_suc-le-suc h))

  pub at_place : (f : ℕ → A → Bool) (xs : List A) → T (every_from f 0 xs) → (k : ℕ) → k < length xs → T (f k (get_or xs k z))
  at_place f xs t k h = subst (λ (m : ℕ). T (f m (get_or xs k z))) (zero-add k) (from f xs 0 t k h)

  module _ (w : ℕ) (f : ℕ → ℕ → A → Bool) where
    rows_from : (rs : List (List A)) (i : ℕ) → T (grid_from w f i rs) → (n k : ℕ) → n < length rs → k < w → T (f (i + n) k (get_or (get_or rs n []) k z))
    rows_from [] i t n k h q = absurd (not-suc-le-zero h)
    rows_from (r ∷ rs) i t zero k h q =
        let b = both_left (both (eqb (length r) w) (every_from (f i) 0 r)) (grid_from w f (suc i) rs) t in
        let l = eqb→eq (length r) w (both_left (eqb (length r) w) (every_from (f i) 0 r) b) in
        subst (λ (m : ℕ). T (f m k (get_or r k z))) (sym (add-zero i))
        (at_place (f i) r (both_right (eqb (length r) w) (every_from (f i) 0 r) b) k (subst (λ (m : ℕ). k < m) (sym l) q))
    rows_from (r ∷ rs) i t (suc n) k h q =
        subst (λ (m : ℕ). T (f m k (get_or (get_or rs n []) k z))) (suc-add i n ∙ sym (add-suc i n))
        (rows_from rs (suc i) (both_right (both (eqb (length r) w) (every_from (f i) 0 r)) (grid_from w f (suc i) rs) t) n k (le_of_suc-le-suc h) q)

    -- row n, column k
    pub at_grid : (rs : List (List A)) → T (grid_from w f 0 rs) → (n k : ℕ) → n < length rs → k < w → T (f n k (get_or (get_or rs n []) k z))
    at_grid rs t n k h q = subst (λ (m : ℕ). T (f m k (get_or (get_or rs n []) k z))) (zero-add n) (rows_from rs 0 t n k h q)
