-- A list given by its elements: its length, its elements, and that its elements are all there is to it. Assumes nothing.
use mathlib.Core.Path.{◌≡◌, refl, sym, ap, ◌∙◌, subst}
use mathlib.Core.List.{List}
use Prim.Native.Nat.{ℕ, zero, suc, ◌<◌}
use native.Mathlib.Nat.{le_of_suc-le-suc, not-suc-le-zero}
use native.Mathlib.Omega.{arith}
use lib.ListN.{length, get_or}
use lib.Seq.{ext_get_or}
use Rattle.list_laws.specs.ListOf.{list_of}

module _ {A : Type 0} where
  pub length_list_of : (n : ℕ) (g : ℕ → A) → length (list_of n g) ≡ n
  unfolding list_of
  length_list_of zero g = refl
  length_list_of (suc n) g = ap suc (length_list_of n (λ k. g (suc k)))

  pub get_or_list_of : (n : ℕ) (g : ℕ → A) (z : A) (i : ℕ) → i < n → get_or (list_of n g) i z ≡ g i
  unfolding list_of
  get_or_list_of zero g z i h = absurd (not-suc-le-zero h)
  get_or_list_of (suc n) g z zero h = refl
  get_or_list_of (suc n) g z (suc i) h = get_or_list_of n (λ k. g (suc k)) z i (le_of_suc-le-suc h)

  -- a list of n elements, each of which is g's
  pub is_list_of : (n : ℕ) (g : ℕ → A) (z : A) (xs : List A) → length xs ≡ n → ((i : ℕ) → i < n → get_or xs i z ≡ g i) → xs ≡ list_of n g
  is_list_of n g z xs l h =
      ext_get_or z xs (list_of n g) (l ∙ sym (length_list_of n g))
      (λ i q. let k : i < n = subst (λ (m : ℕ). i < m) l q in h i k ∙ sym (get_or_list_of n g z i k))

  pub same_list_of : (n : ℕ) (g h : ℕ → A) → ((i : ℕ) → i < n → g i ≡ h i) → list_of n g ≡ list_of n h
  unfolding list_of
  same_list_of zero g h e = refl
  same_list_of (suc n) g h e = rw (e 0 (zero_under n), same_list_of n (λ k. g (suc k)) (λ k. h (suc k)) (λ i l. e (suc i) (suc_under i n l)))
    where
      zero_under : (n : ℕ) → 0 < suc n
      zero_under n = omega arith

      suc_under : (i n : ℕ) → i < n → suc i < suc n
      suc_under i n l = omega arith
