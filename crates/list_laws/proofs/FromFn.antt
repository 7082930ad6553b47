-- An array that is made of a function of the place, by a closure that each call leaves as it was, is the list of its elements. Assumes nothing.
use Rattle.std.proofs.Common.{◌≡◌, ℕ, zero, suc, ◌+◌, ◌<◌, ◌≤◌, List, Some, refl, sym, ◌∙◌, arith, subst, add-zero}
use native.Mathlib.Nat.{not-suc-le-zero}
use lib.ListN.{get_or}
use denote.Param.Members.{Mut, Called}
use Rattle.std.specs.Array.{IsFromFnResult, IsFromFnResultFrom, index_steps}
use Rattle.std.specs.Iterator.{CallableAtEachTurn}
use Rattle.std.proofs.lemmas.Fn.{serves_by}
use Rattle.list_laws.specs.ListOf.{list_of}
use Rattle.list_laws.proofs.ListOf.{is_list_of}

module _ {F A : Type 0} (c : Mut F (ℕ × Unit {0}) A) (f : F) (g : ℕ → A) where
  -- a call at each of the places below m gives g's element and leaves the closure as it was
  abbrev pub Gives : ℕ → Type 0
  Gives m = (i : ℕ) (y : A) (q : F) → i < m → Called c f (i, tt) y q → (q ≡ f) × (y ≡ g i)

  calls : (m n i j : ℕ) (p : F) (ys : List A) (z : A) → Gives m → p ≡ f → i + n ≤ m → IsFromFnResultFrom c p ys i n → j < n → get_or ys (i + j) z ≡ g (i + j)
  calls m zero i j p ys z h e l r b = absurd (not-suc-le-zero b)
  calls m (suc n) i zero p ys z h e l (q, y, is, call, rest) b =
      let k : i < m = omega arith in
      let r : Called c f (i, tt) y q = subst (λ (t : F). Called c t (i, tt) y q) e call in
      rw add-zero (is.1 z ∙ (h i y q k r).1)
  calls m (suc n) i (suc j) p ys z h e l (q, y, is, call, rest) b =
      let k : i < m = omega arith in
      let r : Called c f (i, tt) y q = subst (λ (t : F). Called c t (i, tt) y q) e call in
      let s : (i + 1) + j ≡ i + suc j = omega arith in
      subst (λ (t : ℕ). get_or ys t z ≡ g t) s (calls m n (i + 1) j q ys z h (h i y q k r).0 (omega arith) rest (omega arith))

  pub from_fn_is : (n : ℕ) (ys : List A) (z : A) → IsFromFnResult c f ys n → Gives n → ys ≡ list_of n g
  from_fn_is n ys z r h =
      is_list_of n g z ys r.long (λ i l. let k : 0 + i ≡ i = omega arith in subst (λ (t : ℕ). get_or ys t z ≡ g t) k (calls n n 0 i f ys z h refl (omega arith) r.each l))

-- What the calls ask is asked at the places below n, of the closure as it was.
pub from_fn_asks : {F : Type 0} (R : F → ℕ → F → Type 0) (Q : F → ℕ → Type 0) (n : ℕ) (f : F) → ((i : ℕ) (q : F) → R f i q → q ≡ f) → ((i : ℕ) → i < n → Q f i)
    → CallableAtEachTurn (index_steps n) R Q 0 f
from_fn_asks {F} R Q n f same asks =
    serves_by R (λ xs q. q ≡ f) (λ xs q i v e r. same i v (subst (λ (t : F). R t i v) e r)) (index_steps n) Q 0 f refl
    (λ xs t q i u y s e. subst (λ (p : F). Q p i) (sym e) (subst (λ (k : ℕ). Q f k) (sym s.1) (asks t s.0)))
