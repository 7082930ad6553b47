-- A buffer that is filled from its first place up, as the part that is filled and what is to come. Assumes nothing.
use mathlib.Core.Path.{◌≡◌, ap, sym, ◌∙◌}
use mathlib.Core.List.{List, [], ◌∷◌, ◌++◌, append-nil}
use Prim.Native.Nat.{ℕ, zero, suc, ◌+◌, ◌≤◌, ◌<◌}
use native.Mathlib.Nat.{zero-add, suc-add, le_of_suc-le-suc, not-suc-le-zero}
use native.Mathlib.Numerals.{add-one}
use lib.ListN.{length, take, set}
use lib.Seq.{take-suc-set, take_all, append_snoc}

module _ {A : Type 0} where
  -- a store at the place moves the first element to come over to the part that is filled
  pub prefix_more : (xs : List A) (at : ℕ) (x : A) (rest : List A) → at < length xs
      → take at xs ++ x ∷ rest ≡ take (at + 1) (set xs at x) ++ rest
  prefix_more xs at x rest h = rw (add-one, take-suc-set xs at x h) (sym (append_snoc (take at xs) x rest))

  -- a store past the part that is filled is a store in what is to come
  pub prefix_store : (xs : List A) (at i : ℕ) (x : A) (rest : List A) → at ≤ length xs
      → set (take at xs ++ rest) (at + i) x ≡ take at xs ++ set rest i x
  prefix_store xs zero i x rest h = ap (λ (k : ℕ). set rest k x) (zero-add i)
  prefix_store [] (suc at) i x rest h = absurd (not-suc-le-zero h)
  prefix_store (y ∷ xs) (suc at) i x rest h =
      ap (λ (k : ℕ). set (y ∷ (take at xs ++ rest)) k x) (suc-add at i)
      ∙ ap (λ (r : List A). y ∷ r) (prefix_store xs at i x rest (le_of_suc-le-suc h))

  -- nothing is to come
  pub prefix_all : (xs : List A) (at : ℕ) → length xs ≤ at → take at xs ++ [] ≡ xs
  prefix_all xs at h = append-nil (take at xs) ∙ take_all at xs h
