-- What `fold` makes of the items of a chain, by a closure that each call leaves as it was: the last of its values t 0, t 1, .. Assumes nothing.
use Rattle.std.proofs.Common.{◌≡◌, ℕ, suc, ◌+◌, ◌<◌, List, [], ◌∷◌, refl, sym, ap, ◌∙◌, arith, subst, add-zero}
use Rattle.std.specs.Prelude.{Option, map}
use lib.ListN.{length, get_or, length-map}
use denote.Param.Members.{Mut, Called}
use denote.Ref.{Bor}
use Rattle.std.proofs.lemmas.Iterator.{YieldsList, YieldsList-from_slice, YieldsList-from_zip, items_from_drains, zips}
use Rattle.std.proofs.lemmas.Slice.Zip.{get_or-zip, length-zip}
use Rattle.std.proofs.iter.Yields.{fronts}
use Rattle.std.specs.Iterator.Adapters.{zip_first, zip_second}
use Rattle.std.specs.Slice.Iter.{iter_rest}
use Rattle.std.specs.declared.iter.Zip.{Zip}
use Rattle.std.specs.declared.slice.Iter.{Iter}
use Rattle.std.specs.List.{zip}
use Rattle.std.specs.Iterator.{Drains}
use Rattle.std.specs.List.{FoldsTo}

module _ {A B F C : Type 0} (v : A → B) (g : Mut F (C × (A × Unit {0})) C) (f : F) (t : ℕ → C) (z : B) where
  -- the call at item k of all takes value k to the next
  abbrev pub Goes : List B → Type 0
  Goes all = (k : ℕ) (x : A) (b : C) (q : F) → k < length all → v x ≡ get_or all k z → Called g f (t k, (x, tt)) b q → (b ≡ t (k + 1)) × (q ≡ f)

  go : (all : List B) → Goes all → (xs : List A) (k m : ℕ) (p : F) (a : C) (p' : F) (r : C) → p ≡ f → a ≡ t k → k + length xs ≡ m → m ≡ length all
      → ((i : ℕ) → i < length xs → get_or (map v xs) i z ≡ get_or all (k + i) z)
      → FoldsTo {P = F × C} (λ p x q. Called g p.0 (p.1, (x, tt)) q.1 q.0) (p, a) xs (p', r) → r ≡ t m
  go all h [] k m p a p' r e s l n w c =
      let i : k ≡ m = omega arith in
      sym (ap (λ (q : F × C). q.1) c) ∙ s ∙ ap t i
  go all h (x ∷ xs) k m p a p' r e s l n w (j, c, d) =
      let b : k < length all = omega arith in
      let i : v x ≡ get_or all k z = w 0 (omega arith) ∙ ap (λ (j : ℕ). get_or all j z) (add-zero k) in
      let c' : Called g f (t k, (x, tt)) j.1 j.0 = subst (λ (q : F). Called g q (t k, (x, tt)) j.1 j.0) e (subst (λ (q : C). Called g p (q, (x, tt)) j.1 j.0) s c) in
      let o : (j.1 ≡ t (k + 1)) × (j.0 ≡ f) = h k x j.1 j.0 b i c' in
      go all h xs (k + 1) m j.0 j.1 p' r o.1 o.0 (omega arith) n (λ q u. at q (w (suc q) (omega arith))) d
    where
      at : (q : ℕ) → get_or (map v xs) q z ≡ get_or all (k + suc q) z → get_or (map v xs) q z ≡ get_or all (k + 1 + q) z
      at q u = let e : k + suc q ≡ k + 1 + q = omega arith in u ∙ ap (λ (j : ℕ). get_or all j z) e

  -- the last value
  pub fold_is : {S : Type 0} (steps : S → Option A → S → Type 0) (s : S) (all : List B) (n : ℕ) (a r : C)
      → YieldsList steps v s all → length all ≡ n → a ≡ t 0 → Goes all
      → (xs : List A) × (f' : F) × Drains steps s xs × FoldsTo {P = F × C} (λ p x q. Called g p.0 (p.1, (x, tt)) q.1 q.0) (f, a) xs (f', r) → r ≡ t n
  fold_is steps s all n a r y l e h (xs, f', (u, d), c) =
      let m : map v xs ≡ all = items_from_drains xs (d.0, d.1, λ o. (u, d.2)) y in
      let o : length xs ≡ n = sym (length-map xs v) ∙ ap length m ∙ l in
      go all h xs 0 n f a f' r refl e (omega arith) (sym l) (λ i w. ap (λ (q : List B). get_or q i z) m ∙ back i) c
    where
      back : (i : ℕ) → get_or all i z ≡ get_or all (0 + i) z
      back i = let e : i ≡ 0 + i = omega arith in ap (λ (j : ℕ). get_or all j z) e

-- the same of two lent lists of n, side by side
module _ {A B F C : Type 0} (g : Mut F (C × ((Bor A × Bor B) × Unit {0})) C) (f : F) (t : ℕ → C) (z : A) (w : B) where
  pub fold_zip_is : (s : Zip (Iter A) (Iter B)) (xs : List A) (ys : List B) (n : ℕ) (a r : C)
      → iter_rest (zip_first s) ≡ xs → iter_rest (zip_second s) ≡ ys → length xs ≡ n → length ys ≡ n → a ≡ t 0
      → ((k : ℕ) (p : Bor A × Bor B) (b : C) (q : F) → k < n → p.0.now ≡ get_or xs k z → p.1.now ≡ get_or ys k w → Called g f (t k, (p, tt)) b q → (b ≡ t (k + 1)) × (q ≡ f))
      → (ps : List (Bor A × Bor B)) × (f' : F) × Drains (zips fronts fronts) s ps × FoldsTo {P = F × C} (λ p x q. Called g p.0 (p.1, (x, tt)) q.1 q.0) (f, a) ps (f', r)
      → r ≡ t n
  fold_zip_is s xs ys n a r i j l m e h ran =
      fold_is (λ (p : Bor A × Bor B). let v : A × B = (p.0.now, p.1.now) in v) g f t (z, w) (zips fronts fronts) s (zip xs ys) n a r
      (YieldsList-from_zip (YieldsList-from_slice xs i) (YieldsList-from_slice ys j)) long e
      (λ k p c q u o call.
      let in_xs : k < length xs = omega (arith, long) in
      let in_ys : k < length ys = omega (arith, long) in
      let both : A × B = (get_or xs k z, get_or ys k w) in
      let at : (p.0.now, p.1.now) ≡ both = o ∙ get_or-zip xs ys k (z, w) in_xs in_ys in
      h k p c q (omega arith) (ap (λ (x : A × B). x.0) at) (ap (λ (x : A × B). x.1) at) call)
      ran
    where
      long : length (zip xs ys) ≡ n
      long = omega (arith, length-zip xs ys)
