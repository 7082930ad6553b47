-- The claims of specs/Claims.antt: the theorems of Bijection, put together. Assumes nothing.
use mathlib.Core.Path.{◌≡◌, sym, ◌∙◌, ap, subst}
use mathlib.Core.List.{List, [], ◌∷◌}
use Prim.Native.Nat.{ℕ, zero, suc, ◌≤◌, ◌<◌}
use native.Mathlib.Omega.{arith}
use lib.IntN.{ℤ}
use lib.ListN.{length}
use Rattle.mpvq_offsets.specs.Offsets.{offset_of, size_of}
use Rattle.shapes.proofs.Sizes.{size_regular_a, size_regular_b, size_near, size_far}
use Rattle.numbering.specs.Numbering.{pulses_of, PulseVector, sign_before, lead_sign, index_of, signed, vector_at}
use Rattle.numbering.specs.Claims.{Once, OneToOne, Claim, RegularA, RegularB, OutlierNear, OutlierFar, LeadSign, MoreFirst}
use Rattle.columns.proofs.Offsets.{mono}
use Rattle.numbering.proofs.Bijection.{sign_below, room, pushed_most, index_below, unpacks, repacks}

module _ (n k : ℕ) (h : 0 < k) where
  comes_back : (v : List ℤ) → PulseVector n k v → vector_at n k (lead_sign v) (index_of v) ≡ v
  comes_back v p = rw (p.places, p.pulses) at (repacks v)

  below : (v : List ℤ) → PulseVector n k v → index_of v < size_of n k
  below v p = rw p.places at (index_below v k p.pulses h)

  once : (v : List ℤ) → PulseVector n k v → Once n k (size_of n k) v
  once v p = record {
    sign = lead_sign v;
    index = index_of v;
    sign_below = sign_below v;
    index_below = below v p;
    here = comes_back v p;
    only = λ s i a b e. let u = unpacks n k s i h a b in (sym u.sign ∙ ap lead_sign e, sym u.index ∙ ap index_of e);
  }

pub claim : Claim
claim n k h = record {
  unpack_pack = λ s i a b. let u = unpacks n k s i h a b in (u.sign, u.index);
  pack_unpack = comes_back n k h;
  unpacked = λ s i a b. let u = unpacks n k s i h a b in record { places = u.long; pulses = u.pulses };
  packed = λ v p. (sign_below v, below n k h v p);
  each_once = once n k h;
}

pub regular_a : RegularA
regular_a = subst (OneToOne 10 10) size_regular_a (claim 10 10 (omega arith))

pub regular_b : RegularB
regular_b = subst (OneToOne 6 1) size_regular_b (claim 6 1 (omega arith))

pub outlier_near : OutlierNear
outlier_near = subst (OneToOne 16 8) size_near (claim 16 8 (omega arith))

pub outlier_far : OutlierFar
outlier_far = subst (OneToOne 16 6) size_far (claim 16 6 (omega arith))

here : (x : ℤ) (s d t : ℕ) → s < 2 → x ≡ signed s (suc d) → sign_before x t ≡ s
unfolding sign_before signed
here x zero d t h e = rw e
here x (suc zero) d t h e = rw e
here x (suc (suc s)) d t h e = absurd (omega arith)

pub lead_sign_lem : LeadSign
unfolding lead_sign sign_before
lead_sign_lem [] p s d a h z e = absurd (omega arith)
lead_sign_lem (x ∷ v) zero s d a h z e = here x s d (lead_sign v) a e
lead_sign_lem (x ∷ v) (suc p) s d a h z e =
    rw (z 0 (omega arith)) (lead_sign_lem v p s d a (omega arith) (λ j l. z (suc j) (omega arith)) e)

pub more_first : MoreFirst
unfolding index_of pulses_of
more_first n k x y u v p q h =
    let l : length u ≡ length v = omega (arith, p.places, q.places) in
    let a : offset_of (length u) (suc (pulses_of u)) ≤ offset_of (length u) (pulses_of v) = mono (length u) (suc (pulses_of u)) (pulses_of v) (omega (arith, p.pulses, q.pulses)) in
    let b : offset_of (length v) (pulses_of v) ≡ offset_of (length u) (pulses_of v) = rw l in
    omega (arith, room u, pushed_most x (index_of u) (lead_sign u))
