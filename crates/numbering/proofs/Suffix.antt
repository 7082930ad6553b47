-- A vector from a place on, one place longer: what packing has after each place. Assumes nothing.
use mathlib.Core.Path.{◌≡◌, refl, ap, ap₂, sym, ◌∙◌}
use mathlib.Core.List.{List, [], ◌∷◌, reverse}
use native.Mathlib.Nat.{zero-add}
use Rattle.std.specs.List.{enumerate_from}
use Rattle.std.proofs.lemmas.List.{length-reverse, get_or-reverse, get_or_default}
use Rattle.std.proofs.lemmas.List.FromFn.{length-enumerate_from, get_or-enumerate_from}
use Prim.Native.Nat.{ℕ, zero, suc, ◌+◌, ◌*◌, ◌-◌, ◌≤◌, ◌<◌}
use native.Mathlib.Omega.{arith}
use lib.IntN.{ℤ, pos, nat_abs}
use lib.ListN.{length, drop, get_or, length-drop}
use lib.Seq.{drop-cons, drop-nil}
use Rattle.mpvq_offsets.specs.Offsets.{offset_of}
use Rattle.numbering.specs.Numbering.{pulses_of, sign_before, lead_sign, pushed, index_of}
use Rattle.columns.proofs.Offsets.{mono, mono_rows}
use Rattle.numbering.proofs.Bijection.{room}

pub longer : (v : List ℤ) (n : ℕ) → n < length v → drop (length v - (n + 1)) v ≡ get_or v (length v - 1 - n) (pos 0) ∷ drop (length v - n) v
longer v n h =
    let a : length v - (n + 1) ≡ length v - 1 - n = omega arith in
    let b : suc (length v - 1 - n) ≡ length v - n = omega arith in
    rw a (drop-cons v (length v - 1 - n) (pos 0) (omega arith) ∙ ap (λ m. get_or v (length v - 1 - n) (pos 0) ∷ drop m v) b)

-- an item of places that are counted
pub counted : (ys : List ℤ) (i n : ℕ) (x : ℤ) → (i < length (enumerate_from 0 ys)) × ((n, x) ≡ get_or (enumerate_from 0 ys) i (n, x))
    → (i < length ys) × (n ≡ i) × (x ≡ get_or ys i (pos 0))
counted ys i n x t =
    let l : i < length ys = omega (arith, t.0, length-enumerate_from 0 ys) in
    let e = t.1 ∙ get_or-enumerate_from 0 ys i (n, x) l in
    (l, ap (λ (p : ℕ × ℤ). p.0) e ∙ zero-add i, ap (λ (p : ℕ × ℤ). p.1) e ∙ get_or_default ys i x (pos 0) l)

pub all_counted : (v : List ℤ) (i : ℕ) → i ≡ length (enumerate_from 0 (reverse v)) → length v - i ≡ 0
all_counted v i e = omega (arith, e, length-enumerate_from 0 (reverse v), length-reverse v)

pub fewer : (v : List ℤ) (at : ℕ) → pulses_of (drop at v) ≤ pulses_of v
unfolding pulses_of
fewer [] at = rw drop-nil (omega arith)
fewer (x ∷ v) zero = omega arith
fewer (x ∷ v) (suc at) = omega (arith, fewer v at)

-- the offsets of sixteen places and ten pulses fit a word
top : offset_of 15 11 ≡ 298199265
unfolding offset_of
top = refl

below_top : (n k : ℕ) → n ≤ 15 → k ≤ 11 → offset_of n k ≤ 298199265
below_top n k h l = omega (arith, mono_rows n 15 k h, mono 15 k 11 l, top)

fits_word : (v : List ℤ) → length v ≤ 15 → pulses_of v ≤ 10 → offset_of (length v) (pulses_of v) + (2 * index_of v + lead_sign v) < 4294967296
fits_word v h k = omega (arith, room v, below_top (length v) (suc (pulses_of v)) h (omega arith))

-- what the loop knows with n places numbered, and what it has after the next, x
module _ (v : List ℤ) (n i s k : ℕ) (h : n < length v)
    (hi : i ≡ index_of (drop (length v - n) v)) (hs : s ≡ lead_sign (drop (length v - n) v)) (hk : k ≡ pulses_of (drop (length v - n) v)) where
  long : n ≡ length (drop (length v - n) v)
  long = omega (arith, length-drop (length v - n) v)

  row : offset_of n k ≡ offset_of (length (drop (length v - n) v)) (pulses_of (drop (length v - n) v))
  row = ap₂ offset_of long hk

  pub more_fits : length v ≤ 16 → pulses_of v ≤ 10 → offset_of n k + (2 * i + s) < 4294967296
  more_fits a b = omega (arith, row, fits_word (drop (length v - n) v) (omega (arith, long)) (omega (arith, fewer v (length v - n))))

  module _ (x : ℤ) (e : x ≡ get_or (reverse v) n (pos 0)) where
    here : x ≡ get_or v (length v - 1 - n) (pos 0)
    here = e ∙ get_or-reverse v n (pos 0) h

    pub more_index : pushed x i s + offset_of n k ≡ index_of (drop (length v - (n + 1)) v)
    unfolding index_of
    more_index = rw (here, hi, hs) (omega (arith, ap index_of (longer v n h), row))

    pub more_sign : sign_before x s ≡ lead_sign (drop (length v - (n + 1)) v)
    unfolding lead_sign
    more_sign = rw (here, hs) (sym (ap lead_sign (longer v n h)))

    pub more_pulses : k + nat_abs x ≡ pulses_of (drop (length v - (n + 1)) v)
    unfolding pulses_of
    more_pulses = rw here (omega (arith, ap pulses_of (longer v n h)))
