-- No NaN and no infinity in any comparison of the three searches, for targets of at most 16384 in size: correlations are bounded by the
-- pulses counted, and energies are sums of squares. Assumes nothing.
use mathlib.Core.Path.{◌≡◌, sym, ap, ◌∙◌, subst}
use mathlib.Core.List.{List}
use Prim.Native.Nat.{ℕ, zero, suc, ◌+◌, ◌*◌, ◌^◌, ◌≤◌, ◌<◌, zero-le}
use native.Mathlib.Nat.{le_refl, le_trans, le-suc, le_of_eq, mul_comm}
use native.Mathlib.Omega.{arith}
use lib.Dec.{T, lit<, lit≤}
use lib.IntN.{pos}
use lib.ListN.{length, get_or, set}
use lib.Ieee.{Float, nan, binary32, of_bits, of_int, round, add, sub, mul}
use Rattle.float_laws.specs.Kind.{finite}
use Rattle.float_laws.specs.Bounded.{Bounded}
use Rattle.float_laws.specs.Size.{Within, exact}
use Rattle.float_laws.proofs.Size.{within_finite, within_up, whole_exact, mul_within, add_within, sub_within}
use Rattle.float_laws.proofs.Whole.{int_within}
use Rattle.float_laws.specs.Literal.{squared}
use Rattle.pulse_search.specs.declared.SearchRecord.{SearchRecord}
use Rattle.pulse_search.specs.Pulse.{pair_at, best_to, Search, start, more, missing, total_to, square_to}
use Rattle.pulse_search.specs.Claims.{Belongs, Held}
use Rattle.pulse_search.proofs.Sums.{place_le, total_suc, total_one}
use Rattle.pulse_search.proofs.Laws.{more_length, more_total, more_suc, more_zero, one_pair, best_le}
use Rattle.pulse_search.proofs.Held.{far, squares_few}
use Rattle.projection.specs.Projection.{none, projected_of, terms_of, with_terms, joined_to, projection}
use Rattle.shape_search.specs.Shape.{dropped_to, lowered, shape3, shape2}
use Rattle.shape_search.specs.Claims.{Compares, SearchesFinite}
use Rattle.projection.proofs.Projection.{by_outcome, projection_length, projection_total}
use Rattle.shape_search.proofs.Facts.{three_length, three_total, two_total, low_length, low_all}
use Rattle.shape_search.proofs.Held.{searches_held}

-- a correlation of at most 16384 for each of j pulses
abbrev Sized : Float → ℕ → Type 0
Sized c j = Within c (16384 * j) 1

sized_up : (c : Float) (j k : ℕ) → j ≤ k → Sized c j → Sized c k
sized_up c j k h s = within_up c (16384 * j) 1 (16384 * k) 1 (lit< tt) (big j k h) s
  where
    big : (j k : ℕ) → j ≤ k → 16384 * j * 1 ≤ 16384 * k * 1
    big j k h = omega arith

big_exact : (k : ℕ) → k ≤ 64 → T (exact binary32 (16384 * k) 1)
big_exact k h = whole_exact binary32 (16384 * k) (le_trans (go k h) (lit≤ tt))
  where
    go : (k : ℕ) → k ≤ 64 → 16384 * k ≤ 1048576
    go k h = omega arith

-- ---- one pulse more
module _ (a : List Float) (B : Bounded 16 16384 a) where
  pair_sized : (y : List ℕ) (r : SearchRecord) (j n : ℕ) → n < 16 → j ≤ 63 → Sized r.correlation j → Sized (pair_at a y r n).correlation (suc j)
  unfolding pair_at
  pair_sized y r j n i k S = add_within binary32 (16384 * suc j) 1 (lit< tt) (big_exact (suc j) (up j k)) r.correlation (get_or a n nan) (16384 * j) 16384 (sum j) S (B n i)
    where
      up : (j : ℕ) → j ≤ 63 → suc j ≤ 64
      up j h = omega arith

      sum : (j : ℕ) → 16384 * j + 16384 ≤ 16384 * suc j
      sum j = omega arith

  more_sized : (last : ℕ) → last < 16 → (k j : ℕ) (s : Search) → j + k ≤ 63 → Sized s.pair.correlation j → Sized (more a last k s).pair.correlation (j + k)
  more_sized last m zero j s h S = rw more_zero (sized_up s.pair.correlation j (j + 0) (omega arith) S)
  more_sized last m (suc k) j s h S =
      let p = more a last k s in
      let b = best_to a p.pulses p.pair last in
      let u : b < 16 = omega (arith, best_le a p.pulses p.pair last) in
      let e : suc (j + k) ≡ j + suc k = omega arith in
      let x : Sized (pair_at a p.pulses p.pair b).correlation (j + suc k) = rw e at (pair_sized p.pulses p.pair (j + k) b u (omega arith) (more_sized last m k j s (omega arith) S)) in
      rw (more_suc, one_pair) x

-- ---- THE SCAN: both sides of each comparison are finite
side : (c e : Float) → Sized c 32 → Within e 65536 1 → T (finite (mul binary32 (squared c) e))
side c e C E =
    within_finite (mul binary32 (squared c) e) (2 ^ 54) 1
    (mul_within binary32 (squared c) e (2 ^ 38) 1 65536 1 (2 ^ 54) 1 (lit< tt) (lit< tt) (lit< tt) wide (lit≤ tt)
    (mul_within binary32 c c (16384 * 32) 1 (16384 * 32) 1 (2 ^ 38) 1 (lit< tt) (lit< tt) (lit< tt) wide' (lit≤ tt) C C) E)
  where
    wide : T (exact binary32 (2 ^ 54) 1)
    wide = unfold round in tt

    wide' : T (exact binary32 (2 ^ 38) 1)
    wide' = unfold round in tt

-- an energy that belongs to at most 255 pulses
energy_within : (s : Search) → total_to s.pulses 16 ≤ 255 → Belongs s → Within s.pair.energy 65536 1
energy_within s h b =
    let q = square_to s.pulses 16 in
    let l : q ≤ 65536 = le_trans (squares_few s.pulses 16 h) (lit≤ tt) in
    rw b.squares (within_up (of_int binary32 (pos q)) q 1 65536 1 (lit< tt) (wider q l) (int_within binary32 (pos q) (far q l)))
  where
    wider : (q : ℕ) → q ≤ 65536 → q * 1 ≤ 65536 * 1
    wider q h = omega arith

-- each comparison while k pulses are sought, from a correlation of at most j pulses
module _ (a : List Float) (B : Bounded 16 16384 a) (last : ℕ) (m : last < 16) (k j : ℕ) (s : Search) where
  compares : length s.pulses ≡ 16 → total_to s.pulses 16 + k ≤ 255 → j + k ≤ 32 → Sized s.pair.correlation j → Held a last k s → Compares a last k s
  compares l t h S H i g n b u v =
      let p = more a last i s in
      let y = p.pulses in
      let w : b < length y = subst (λ (c : ℕ). b < c) (sym (more_length a last i s ∙ l)) v in
      side (pair_at a y p.pair n).correlation (pair_at a y p.pair b).energy
      (sized_up (pair_at a y p.pair n).correlation (suc (j + i)) 32 (omega arith) (pair_sized a B y p.pair (j + i) n u (omega arith) (more_sized a B last m i j s (omega arith) S)))
      (energy_within (start (set y b (get_or y b 0 + 1)) (pair_at a y p.pair b))
      (omega (arith, total_one y b 16 v w, more_total a last 16 m i s (le_of_eq (sym l))))
      (H.tried i g b v))

-- ---- a place's two terms
module _ (r : SearchRecord) (x : Float) (B : Within x 16384 1) where
  term : (w : ℕ) → w ≤ 32 → Sized (mul binary32 (of_int binary32 (pos w)) x) w
  term w h =
      mul_within binary32 (of_int binary32 (pos w)) x w 1 16384 1 (16384 * w) 1 (lit< tt) (lit< tt) (lit< tt) (big_exact w (wide w h)) (le_of_eq (ap (λ (z : ℕ). z * 1) (mul_comm w 16384)))
      (int_within binary32 (pos w) (far w (le_trans h (lit≤ tt)))) B
    where
      wide : (w : ℕ) → w ≤ 32 → w ≤ 64
      wide w h = omega arith

  sums : (j w : ℕ) → 16384 * j + 16384 * w ≤ 16384 * (j + w)
  sums j w = omega arith

  -- put to a pair by an operation that keeps a sum's bound: addition, or subtraction
  terms_sized : (op : Float → Float → Float) → ((g : ℕ) → T (exact binary32 g 1) → (y z : Float) (a b : ℕ) → a + b ≤ g → Within y a 1 → Within z b 1 → Within (op y z) g 1)
      → (j w : ℕ) → w ≤ 32 → j + w ≤ 64 → Sized r.correlation j → Sized (with_terms op r w x).correlation (j + w)
  unfolding with_terms terms_of
  terms_sized op o j zero h k S = sized_up r.correlation j (j + 0) (omega arith) S
  terms_sized op o j (suc w) h k S =
      o (16384 * (j + suc w)) (big_exact (j + suc w) k) r.correlation (mul binary32 (of_int binary32 (pos (suc w))) x) (16384 * j) (16384 * suc w) (sums j (suc w)) S (term (suc w) h)

none_sized : (j : ℕ) → Sized none.correlation j
unfolding of_bits
none_sized j = zero-le

module _ (a : List Float) (B : Bounded 16 16384 a) where
  joined_to_lem : (y : List ℕ) (n : ℕ) → n ≤ 16 → total_to y n ≤ 6 → Sized (joined_to a y n).correlation (total_to y n)
  unfolding joined_to
  joined_to_lem y zero h u = none_sized _
  joined_to_lem y (suc n) h u =
      rw total_suc
      (terms_sized (joined_to a y n) (get_or a n nan) (B n h) (add binary32) (λ g e. add_within binary32 g 1 (lit< tt) e) (total_to y n) (get_or y n 0) (omega (arith, total_suc y n)) (omega (arith, total_suc y n)) (joined_to_lem y n (le_trans (le-suc n) h) (omega (arith, total_suc y n))))

  -- the dropped places' pulses
  dropped_to_lem : (y : List ℕ) (r : SearchRecord) → total_to y 16 ≤ 8 → Sized r.correlation 8 → (n : ℕ) → n ≤ 6 → total_to y (10 + n) ≤ 8 → Sized (dropped_to a y r n).correlation (8 + total_to y (10 + n))
  unfolding dropped_to
  dropped_to_lem y r t S zero l u = sized_up r.correlation 8 (8 + total_to y 10) (omega arith) S
  dropped_to_lem y r t S (suc n) l u =
      let i : 10 + n < 16 = omega arith in
      let e : total_to y (10 + suc n) ≡ total_to y (10 + n) + get_or y (10 + n) 0 = ap (total_to y) (next n) ∙ total_suc y (10 + n) in
      let f : 8 + total_to y (10 + n) + get_or y (10 + n) 0 ≡ 8 + total_to y (10 + suc n) = omega arith in
      rw f at (terms_sized (dropped_to a y r n) (get_or a (10 + n) nan) (B (10 + n) i) (sub binary32) (λ g e. sub_within binary32 g 1 (lit< tt) e) (8 + total_to y (10 + n)) (get_or y (10 + n) 0) (omega (arith, place_le y (10 + n) 16 i)) (omega arith) (dropped_to_lem y r t S n (le_trans (le-suc n) l) (omega arith)))
    where
      next : (n : ℕ) → 10 + suc n ≡ suc (10 + n)
      next n = omega arith

  -- ---- the correlations that the three searches start from: one for each pulse placed, and for each dropped
  projection_sized : Sized (projection a).pair.correlation (total_to (projection a).pulses 16)
  projection_sized =
      by_outcome (λ s. Sized s.pair.correlation (total_to s.pulses 16)) a (λ h. joined_to_lem (projected_of a) 16 (le_refl 16) h) (none_sized _)

  three_sized : Sized (shape3 a).pair.correlation 6
  unfolding shape3
  three_sized =
      let p = projection a in
      sized_up (more a 15 (missing 15 6 p) p).pair.correlation (total_to p.pulses 16 + missing 15 6 p) 6 (omega (arith, projection_total a))
      (more_sized a B 15 (lit< tt) (missing 15 6 p) (total_to p.pulses 16) p (omega (arith, projection_total a)) projection_sized)

  two_sized : Sized (shape2 a).pair.correlation 8
  unfolding shape2
  two_sized =
      let p = shape3 a in
      sized_up (more a 15 (missing 15 8 p) p).pair.correlation (6 + missing 15 8 p) 8 (omega (arith, three_total a)) (more_sized a B 15 (lit< tt) (missing 15 8 p) 6 p (omega arith) three_sized)

  low_sized : Sized (lowered a (shape2 a)).pair.correlation 16
  unfolding lowered
  low_sized =
      let y = (shape2 a).pulses in
      let t : total_to y 16 ≤ 8 = le_of_eq (two_total a) in
      sized_up (dropped_to a y (shape2 a).pair 6).correlation (8 + total_to y 16) 16 (omega arith) (dropped_to_lem y (shape2 a).pair t two_sized 6 (le_refl 6) t)

pub searches_finite : SearchesFinite
searches_finite a B =
    let H = searches_held a in
    let p = projection a in
    let l = lowered a (shape2 a) in
    record {
      three =
          compares a B 15 (lit< tt) (missing 15 6 p) (total_to p.pulses 16) p (projection_length a) (omega (arith, projection_total a)) (omega (arith, projection_total a)) (projection_sized a B) H.three;
      two = compares a B 15 (lit< tt) (missing 15 8 (shape3 a)) 6 (shape3 a) (three_length a) (omega (arith, three_total a)) (omega arith) (three_sized a B) H.two;
      one = compares a B 9 (lit< tt) (missing 9 10 l) 16 l (low_length a) (omega (arith, low_all a)) (omega arith) (low_sized a B) H.one;
    }
