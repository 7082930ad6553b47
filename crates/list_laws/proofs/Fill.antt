-- A buffer that a loop fills from its first place up: what it holds after n stores, one store more, and when it is full. Assumes nothing.
use mathlib.Core.Path.{◌≡◌, refl, ap, ◌∙◌}
use mathlib.Core.List.{List, [], ◌∷◌}
use Prim.Native.Nat.{ℕ, zero, suc, ◌+◌, ◌<◌}
use native.Mathlib.Numerals.{add-one}
use lib.ListN.{length, get_or, set}
use lib.Seq.{get_or-set_same}
use borrow.Author.Count.{below_more}
use borrow.Author.Rules.{read_below}
use Rattle.list_laws.specs.ListOf.{list_of}

module _ {A : Type 0} where
  -- the list d with its first n elements g 0, g 1, ..: a loop's invariant
  unfoldable pub over : (ℕ → A) → ℕ → List A → List A
  over g zero d = d
  over g (suc n) [] = []
  over g (suc n) (x ∷ d) = g 0 ∷ over (λ k. g (suc k)) n d

  pub over_none : (g : ℕ → A) (d : List A) → d ≡ over g 0 d
  unfolding over
  over_none g d = refl

  over_suc : (g : ℕ → A) (n : ℕ) (d : List A) → set (over g n d) n (g n) ≡ over g (suc n) d
  unfolding over
  over_suc g zero [] = refl
  over_suc g zero (x ∷ d) = refl
  over_suc g (suc n) [] = refl
  over_suc g (suc n) (x ∷ d) = ap (λ (t : List A). g 0 ∷ t) (over_suc (λ k. g (suc k)) n d)

  -- a store of g n at n
  pub over_more : (g : ℕ → A) (n : ℕ) (d e : List A) (v : A) → e ≡ over g n d → v ≡ g n → set e n v ≡ over g (n + 1) d
  over_more g n d e v p q = rw (p, q, add-one) (over_suc g n d)

  pub length_over : (g : ℕ → A) (n : ℕ) (d : List A) → length (over g n d) ≡ length d
  unfolding over
  length_over g zero d = refl
  length_over g (suc n) [] = refl
  length_over g (suc n) (x ∷ d) = ap suc (length_over (λ k. g (suc k)) n d)

  -- nothing of d is left
  pub over_all : (g : ℕ → A) (d : List A) → over g (length d) d ≡ list_of (length d) g
  unfolding over list_of
  over_all g [] = refl
  over_all g (x ∷ d) = ap (λ (t : List A). g 0 ∷ t) (over_all (λ k. g (suc k)) d)

  -- the same, place by place: what holds of each place passed holds after one more store
  pub fill : (g : ℕ → A) (ys : List A) (k : ℕ) (v z : A) → k < length ys → ((j : ℕ) → j < k → get_or ys j z ≡ g j) → v ≡ g k
      → (j : ℕ) → j < k + 1 → get_or (set ys k v) j z ≡ g j
  fill g ys k v z h all e =
      below_more (λ (j : ℕ). get_or (set ys k v) j z ≡ g j) k (λ j l. read_below A ys k j v z (g j) l (all j l)) (get_or-set_same ys k v z h ∙ e)
