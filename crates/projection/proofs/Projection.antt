-- The projection: its causes of being dropped as the code tests them, its three outcomes, and one place more of a pair. Assumes nothing.
use mathlib.Core.Path.{◌≡◌, refl, sym, ap, ◌∙◌}
use mathlib.Core.Bool.{Bool, true, false, not, ◌||◌, cond}
use mathlib.Core.List.{List}
use Prim.Native.Nat.{ℕ, zero, suc, ◌≤◌, ◌<◌}
use native.Mathlib.Nat.{le_refl, le_trans, le_of_eq}
use native.Mathlib.Omega.{arith}
use borrow.Author.Tests.{lt-ltb, le-ltb, ltb-false, not-false}
use lib.Dec.{T, ltb, lit≤}
use lib.ListN.{length, get_or}
use lib.Ieee.{Float, nan, inf, fin, binary32, of_bits, mul, div, lt, le}
use Rattle.std.specs.Prelude.{Option, None, Some}
use Rattle.std.specs.Option.{unwrap_or}
use Rattle.float_laws.specs.Absolute.{abs_of}
use Rattle.float_laws.specs.Kind.{finite}
use Rattle.float_laws.specs.Floor.{floor_of}
use Rattle.float_laws.specs.Running.{sum_to}
use Rattle.float_laws.proofs.Unsigned.{unsigned, own_unsigned, unsigned_own, mul_unsigned, div_unsigned, sum_unsigned, le_flip}
use Rattle.float_laws.proofs.Logic.{yes}
use Rattle.float_laws.specs.Literal.{five, seven}
use Rattle.list_laws.specs.ListOf.{list_of}
use Rattle.list_laws.proofs.ListOf.{length_list_of}
use Rattle.list_laws.specs.Some.{some_below}
use Rattle.list_laws.proofs.Some.{some_none, some_or}
use Rattle.pulse_search.specs.declared.SearchRecord.{SearchRecord}
use Rattle.pulse_search.specs.Pulse.{Search, sum_over, total_to}
use Rattle.projection.specs.Projection.{projection_factor, product_at, projected_of, terms_of, with_terms, joined_to, some_not_finite, some_seven, total_over_six, zeros, is_dropped, whole, nothing, projection, Absolutes, AllBelowSeven, begun_of}
use Rattle.projection.specs.declared.Start.{Start}

-- ---- no product has a minus sign
five_unsigned : T (unsigned five)
unfolding of_bits unsigned
five_unsigned = tt

factor_unsigned : (a : List Float) → Absolutes a → T (unsigned (projection_factor a))
unfolding projection_factor
factor_unsigned a h =
    div_unsigned binary32 five (sum_to (λ n. get_or a n nan) 16) five_unsigned
    (sum_unsigned (λ n. get_or a n nan) 16 (λ n l. own_unsigned (get_or a n nan) (h n l)) 16 (le_refl 16))

product_unsigned : (a : List Float) → Absolutes a → (n : ℕ) → n < 16 → T (unsigned (product_at a n))
unfolding product_at
product_unsigned a h n l = mul_unsigned binary32 (get_or a n nan) (projection_factor a) (own_unsigned (get_or a n nan) (h n l)) (factor_unsigned a h)

pub product_own : (a : List Float) → Absolutes a → (n : ℕ) → n < 16 → abs_of (product_at a n) ≡ product_at a n
product_own a h n l = unsigned_own (product_at a n) (product_unsigned a h n l)

-- ---- not below 7.0: not finite, or 7 or more
seven_plus : T (unsigned seven)
unfolding of_bits unsigned
seven_plus = tt

seven_finite : T (finite seven)
unfolding of_bits
seven_finite = tt

cause : (p : Float) → T (unsigned p) → not (lt p seven) ≡ not (finite p) || le seven p
unfolding lt unsigned
cause nan u = refl
cause (inf true) u = absurd u
cause (inf false) u = past
  where
    past : not (lt (inf false) seven) ≡ true
    past = unfold of_bits in refl
cause (fin true m e) u = absurd u
cause (fin false m e) u = sym (le_flip seven (fin false m e) seven_plus tt seven_finite tt)

-- the code's test over all places
pub too_large : List Float → ℕ → Bool
too_large a n = not (lt (product_at a n) seven)

pub too_large_is : (a : List Float) → Absolutes a → some_below 16 (too_large a) ≡ some_not_finite a || some_seven a
unfolding some_not_finite some_seven too_large
too_large_is a h =
    some_or 16 (λ n. not (lt (product_at a n) seven)) (λ n. not (finite (product_at a n))) (λ n. le seven (product_at a n))
    (λ n l. cause (product_at a n) (product_unsigned a h n l))

pub all_below : (a : List Float) → Absolutes a → some_not_finite a || some_seven a ≡ false → AllBelowSeven a
unfolding too_large
all_below a h e n l = yes (not-false (lt (product_at a n) seven) (some_none 16 (too_large a) (too_large_is a h ∙ e) n l))

-- ---- the three outcomes
pub dropped_large : (a : List Float) → some_not_finite a || some_seven a ≡ true → is_dropped a ≡ true
dropped_large a e = ap (λ (b : Bool). b || total_over_six a) e

pub dropped_total : (a : List Float) → some_not_finite a || some_seven a ≡ false → 6 < total_to (projected_of a) 16 → is_dropped a ≡ true
unfolding total_over_six
dropped_total a e h = rw (e, lt-ltb 6 (total_to (projected_of a) 16) h)

pub not_dropped : (a : List Float) → some_not_finite a || some_seven a ≡ false → total_to (projected_of a) 16 ≤ 6 → is_dropped a ≡ false
unfolding total_over_six
not_dropped a e h = rw (e, le-ltb 6 (total_to (projected_of a) 16) h)

-- What holds of nothing, and of the projected pulses where they are at most six, holds of the projection.
pub by_outcome : (P : Search → Type 0) (a : List Float) → (total_to (projected_of a) 16 ≤ 6 → P (whole a)) → P nothing → P (projection a)
unfolding projection total_over_six
by_outcome P a f g = by (some_not_finite a || some_seven a) (ltb 6 (total_to (projected_of a) 16)) refl
  where
    by : (b t : Bool) → ltb 6 (total_to (projected_of a) 16) ≡ t → P (cond (b || t) nothing (whole a))
    by true t e = g
    by false true e = g
    by false false e = f (ltb-false 6 (total_to (projected_of a) 16) e)

pub projection_length : (a : List Float) → length (projection a).pulses ≡ 16
unfolding projected_of
projection_length a = by_outcome (λ s. length s.pulses ≡ 16) a (λ h. length_list_of 16 _) (length_list_of 16 (λ n. 0))

pub zeros_total : total_to zeros 16 ≡ 0
unfolding sum_over list_of
zeros_total = refl

pub projection_total : (a : List Float) → total_to (projection a).pulses 16 ≤ 6
projection_total a = by_outcome (λ s. total_to s.pulses 16 ≤ 6) a (λ h. h) (le_trans (le_of_eq zeros_total) (lit≤ tt))

-- ---- a place's terms
pub terms_zero : (op : Float → Float → Float) (r : SearchRecord) (w : ℕ) (x : Float) → w ≡ 0 → r ≡ with_terms op r w x
unfolding with_terms
terms_zero op r zero x e = refl
terms_zero op r (suc w) x e = absurd (omega arith)

pub terms_some : (op : Float → Float → Float) (r : SearchRecord) (w : ℕ) (x : Float) → (w ≡ 0 → ⊥)
    → ◌≡◌ {A = SearchRecord} (record { correlation = op r.correlation (terms_of w x).correlation; energy = op r.energy (terms_of w x).energy }) (with_terms op r w x)
unfolding with_terms
terms_some op r zero x h = absurd (h refl)
terms_some op r (suc w) x h = refl

-- ---- the code's tests, in its words
module _ (a : List Float) (f : Float) (e : f ≡ projection_factor a) where
  same_product : (n : ℕ) → mul binary32 (get_or a n nan) f ≡ product_at a n
  unfolding product_at
  same_product n = ap (λ (g : Float). mul binary32 (get_or a n nan) g) e

  pub too_large_yes : (n : ℕ) → lt (mul binary32 (get_or a n nan) f) seven ≡ false → too_large a n ≡ true
  unfolding too_large
  too_large_yes n w = ap not (ap (λ (p : Float). lt p seven) (sym (same_product n)) ∙ w)

  pub too_large_no : (n : ℕ) → lt (mul binary32 (get_or a n nan) f) seven ≡ true → too_large a n ≡ false
  unfolding too_large
  too_large_no n w = ap not (ap (λ (p : Float). lt p seven) (sym (same_product n)) ∙ w)

  pub floor_asks : Absolutes a → AllBelowSeven a → (n : ℕ) → n < 16 → (abs_of (mul binary32 (get_or a n nan) f) ≡ mul binary32 (get_or a n nan) f) × T (lt (mul binary32 (get_or a n nan) f) seven)
  floor_asks h b n l = rw (same_product n) (product_own a h n l, b n l)

  pub floor_gives : (n w : ℕ) → w ≡ floor_of (mul binary32 (get_or a n nan) f) → w ≡ floor_of (product_at a n)
  floor_gives n w h = h ∙ ap floor_of (same_product n)

pub factor_is : (a : List Float) (s : Float) → s ≡ sum_to (λ n. get_or a n nan) 16 → div binary32 five s ≡ projection_factor a
unfolding projection_factor
factor_is a s e = ap (div binary32 five) e

-- ---- what the code answers: the projected pulses where they are kept, and nothing in their place
pub lost : (a : List Float) → is_dropped a ≡ true → ◌≡◌ {A = Option Start} None (cond (is_dropped a) None (Some (begun_of (whole a))))
lost a e = rw e

pub kept : (a : List Float) (y : List ℕ) (k : ℕ) (r : SearchRecord) → some_not_finite a || some_seven a ≡ false → y ≡ projected_of a → k ≡ total_to y 16 → k ≤ 6 → r ≡ joined_to a y 16
    → ◌≡◌ {A = Option Start} (Some (record { y = y; k = k; pair = r })) (cond (is_dropped a) None (Some (begun_of (whole a))))
kept a y k r e p q h s =
    let w : is_dropped a ≡ false = not_dropped a e (rw (q, p) at h) in
    rw (s, q, p, w)

pub begun_is : (a : List Float) → unwrap_or (cond (is_dropped a) None (Some (begun_of (whole a)))) (begun_of nothing) ≡ begun_of (projection a)
unfolding projection
begun_is a = by (is_dropped a)
  where
    by : (b : Bool) → unwrap_or (cond b None (Some (begun_of (whole a)))) (begun_of nothing) ≡ begun_of (cond b nothing (whole a))
    by true = refl
    by false = refl
