-- Unpacking, place by place: the part that is filled, and the vector that is to come. Assumes nothing.
use mathlib.Core.Path.{◌≡◌, refl, sym, ap, ◌∙◌}
use mathlib.Core.Logic.{◌⊎◌, inl, inr}
use mathlib.Core.List.{List, ◌∷◌, ◌++◌, append-nil}
use Prim.Native.Nat.{ℕ, zero, suc, ◌+◌, ◌-◌, ◌≤◌, ◌<◌}
use native.Mathlib.Nat.{sub-zero}
use native.Mathlib.Omega.{arith}
use lib.IntN.{ℤ, pos}
use lib.ListN.{length, length-drop, take, drop, set, replicate}
use lib.Seq.{drop-length}
use borrow.Rule.Slice.PartMut.{put_mid}
use Rattle.list_laws.proofs.Prefix.{prefix_more, prefix_all}
use Rattle.mpvq_offsets.specs.Offsets.{offset_of}
use Rattle.numbering.specs.Numbering.{signed, next_sign, next_index, vector_at}
use Rattle.columns.specs.Column.{column_of}
use Rattle.columns.proofs.Offsets.{first, second}
use Rattle.columns.proofs.Columns.{column_zero}
use Rattle.numbering.proofs.Bijection.{no_pulse, none_there}

-- index zero: all pulses stand at the first place

next_zero : (d : ℕ) → next_index d 0 ≡ 0
unfolding next_index
next_zero zero = refl
next_zero (suc d) = refl

at_zero : (n k s : ℕ) → vector_at (suc n) k s 0 ≡ signed s k ∷ vector_at n 0 (next_sign k s 0) 0
unfolding vector_at
at_zero n k s =
    let z : 0 - offset_of n 0 ≡ 0 = omega arith in
    rw (column_zero n k, sub-zero k, z, next_zero k)

-- no pulses: zeros, at any index
no_pulses_lem : (n s i : ℕ) → vector_at n 0 s i ≡ replicate n (pos 0)
unfolding vector_at
no_pulses_lem zero s i = refl
no_pulses_lem (suc n) s i =
    let e : offset_of n 0 + i ≡ i = omega (arith, first n) in
    (rw e at (none_there n 0 s i)) ∙ rw (no_pulse s, no_pulses_lem n s i)

-- a zero among zeros
zero_there : (n i : ℕ) → set (replicate n (pos 0)) i (pos 0) ≡ replicate n (pos 0)
zero_there zero i = refl
zero_there (suc n) zero = refl
zero_there (suc n) (suc i) = ap (λ (v : List ℤ). pos 0 ∷ v) (zero_there n i)

-- one pulse and an index that is not zero: the place has none
one_later : (n s i : ℕ) → vector_at (suc n) 1 s (suc i) ≡ pos 0 ∷ vector_at n 1 s i
one_later n s i =
    let e : offset_of n 1 + i ≡ suc i = omega (arith, second n) in
    (rw e at (none_there n 1 s i)) ∙ rw (no_pulse s)

-- THE SHORTCUT. Fewer than two pulses, or index zero: all of them stand at one place, index places on, or nowhere past the end
pub at_one_place : (n k s i : ℕ) → (k < 2) ⊎ (i ≡ 0) → vector_at n k s i ≡ set (replicate n (pos 0)) i (signed s k)
unfolding vector_at
at_one_place zero k s i h = refl
at_one_place (suc n) k s zero h = at_zero n k s ∙ rw (no_pulses_lem n (next_sign k s 0) 0)
at_one_place (suc n) zero s (suc i) h = no_pulses_lem (suc n) s (suc i) ∙ rw (no_pulse s) (sym (zero_there (suc n) (suc i)))
at_one_place (suc n) (suc zero) s (suc i) h =
    one_later n s i ∙ ap (λ (v : List ℤ). pos 0 ∷ v) (at_one_place n 1 s i (inl (omega arith)))
at_one_place (suc n) (suc (suc k)) s (suc i) (inl h) = absurd (omega arith)
at_one_place (suc n) (suc (suc k)) s (suc i) (inr e) = absurd (omega arith)

-- a turn of the loop at the place `at`, whose row is dim - 1 - at
module _ (dim at k s i : ℕ) (out w : List ℤ) (e : w ≡ take at out ++ vector_at (dim - at) k s i) (h : at < dim)
    (l : length out ≡ dim) where
  -- x is what the place gets, c the column, r the rest of the index, and s' and i' are what goes on
  pub goes_on : (x : ℤ) (c r s' i' : ℕ) → c ≡ column_of (dim - 1 - at) k i → r ≡ i - offset_of (dim - 1 - at) (column_of (dim - 1 - at) k i)
      → x ≡ signed s (k - c) → i' ≡ next_index (k - c) r → s' ≡ next_sign (k - c) s r
      → w ≡ take (at + 1) (set out at x) ++ vector_at (dim - (at + 1)) c s' i'
  unfolding vector_at
  goes_on x c r s' i' hc hr hx hi hs =
      let a : dim - at ≡ suc (dim - 1 - at) = omega arith in
      let b : dim - (at + 1) ≡ dim - 1 - at = omega arith in
      let p : vector_at (suc (dim - 1 - at)) k s i ≡ x ∷ vector_at (dim - 1 - at) c s' i' = rw (hx, hi, hs, hr, hc) in
      e ∙ rw (a, b, p) (prefix_more out at x (vector_at (dim - 1 - at) c s' i') (omega arith))

  -- the places that are left, n of them, are filled at once
  pub stops : (n : ℕ) (rest : List ℤ) → (k < 2) ⊎ (i ≡ 0) → n ≡ dim - at → rest ≡ set (replicate n (pos 0)) i (signed s k)
      → put_mid at (length out - at) out rest ≡ w
  stops n rest z m p =
      rw (← length-drop at out, drop-length (drop at out), append-nil rest, p, m) (sym (e ∙ rw (at_one_place (dim - at) k s i z)))

pub ended : (dim at k s i : ℕ) (out w : List ℤ) → w ≡ take at out ++ vector_at (dim - at) k s i → dim ≤ at → length out ≡ dim → out ≡ w
unfolding vector_at
ended dim at k s i out w e h l =
    let a : dim - at ≡ 0 = omega arith in
    sym (e ∙ rw a (prefix_all out at (omega arith)))
