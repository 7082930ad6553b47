-- One band more: a line that no band so far holds is as it was, since the limits rise. Assumes nothing.
use mathlib.Core.Path.{◌≡◌, refl, sym, ap, ◌∙◌}
use mathlib.Core.Logic.{inl, inr}
use mathlib.Core.Bool.{Bool, true, false, ◌&&◌, cond}
use mathlib.Core.List.{List, [], ◌∷◌, ◌++◌, map}
use Prim.Native.Nat.{ℕ, zero, suc, ◌+◌, ◌-◌, ◌≤◌, ◌<◌}
use native.Mathlib.Nat.{le_trans, le_of_lt, le_of_eq, eq-or-lt_of_le, lt_of_lt_of_le}
use native.Mathlib.Numerals.{add-one}
use native.Mathlib.Omega.{arith}
use borrow.Author.Tests.{lt-ltb, le-ltb, le-leb, lt-leb, leb-true, ltb-true, ltb-false}
use lib.Dec.{leb, ltb, lit≤}
use lib.ListN.{length, get_or, take, drop, length-drop, length-map, get_or-map}
use lib.Seq.{length-take-le, get_or-take, get_or-drop, ext_get_or}
use lib.Ieee.{Float, nan, binary32, mul}
use Rattle.list_laws.specs.ListOf.{list_of}
use Rattle.list_laws.proofs.ListOf.{is_list_of, get_or_list_of, length_list_of, same_list_of}
use Rattle.list_laws.proofs.InPlace.{Passed}
use Rattle.list_laws.proofs.Part.{length_replaced, before, within, after}
use Rattle.band_index_tables.specs.Bands.{limits_of, bands_of, handed_out}
use Rattle.band_index_tables.proofs.Bands.{limits}
use Rattle.shaping.specs.Shaping.{inside, scaled_part, in_band, shaped_line}

-- ---- the test `inside`
is_inside : (first end i : ℕ) → first ≤ i → i < end → inside first end i ≡ true
is_inside first end i p q = rw (le-leb first i p, lt-ltb i end q)

not_before : (first end i : ℕ) → i < first → inside first end i ≡ false
not_before first end i p = rw (lt-leb first i p)

not_after : (first end i : ℕ) → end ≤ i → inside first end i ≡ false
not_after first end i p = by (leb first i)
  where
    by : (t : Bool) → t && ltb i end ≡ false
    by true = le-ltb i end p
    by false = refl

-- ---- one band's lines
-- the default element of a list of floats stays what it is
get_or_scaled : (gain : Float) (xs : List Float) (i : ℕ) → get_or (map (λ line. mul binary32 line gain) xs) i nan ≡ mul binary32 (get_or xs i nan) gain
unfolding mul
get_or_scaled gain xs i = get_or-map (λ line. mul binary32 line gain) xs i nan

pub scaled_all : (gain : Float) (xs ys : List Float) (i : ℕ) → length xs ≤ i → Passed nan (λ k. mul binary32 (get_or xs k nan) gain) xs ys i → ys ≡ map (λ line. mul binary32 line gain) xs
scaled_all gain xs ys i h p =
    ext_get_or nan ys (map (λ line. mul binary32 line gain) xs) (p.same ∙ sym (length-map xs (λ line. mul binary32 line gain)))
    (λ j l. p.done j (omega (arith, p.same)) ∙ sym (get_or_scaled gain xs j))

pub part_scaled : (a e : ℕ) (gain : Float) (xs ys : List Float) (h : a ≤ e) (k : e ≤ length xs) → ys ≡ map (λ line. mul binary32 line gain) (take (e - a) (drop a xs))
    → take a xs ++ (ys ++ drop (e - a) (drop a xs)) ≡ scaled_part a e gain xs
part_scaled a e gain xs ys h k p = is_list_of (length xs) _ nan _ (length_replaced nan a e xs ys h k long) (λ i l. by i (ltb i a) (ltb i e) refl refl)
  where
    long : length ys ≡ e - a
    long = ap length p ∙ length-map (take (e - a) (drop a xs)) (λ line. mul binary32 line gain) ∙ length-take-le (e - a) (drop a xs) (rw length-drop (less a e (length xs) h k))
      where
        less : (a e n : ℕ) → a ≤ e → e ≤ n → e - a ≤ n - a
        less a e n h k = omega arith

    mid : (i : ℕ) → a ≤ i → i < e → get_or ys (i - a) nan ≡ mul binary32 (get_or xs i nan) gain
    mid i q r =
        ap (λ (l : List Float). get_or l (i - a) nan) p ∙ get_or_scaled gain (take (e - a) (drop a xs)) (i - a)
        ∙ ap (λ (x : Float). mul binary32 x gain) (get_or-take (e - a) (drop a xs) (i - a) nan (omega arith) ∙ get_or-drop a xs (i - a) nan ∙ ap (λ (j : ℕ). get_or xs j nan) (place a i q))
      where
        place : (a i : ℕ) → a ≤ i → a + (i - a) ≡ i
        place a i q = omega arith

    by : (i : ℕ) (t u : Bool) → ltb i a ≡ t → ltb i e ≡ u
        → get_or (take a xs ++ (ys ++ drop (e - a) (drop a xs))) i nan ≡ cond (inside a e i) (mul binary32 (get_or xs i nan) gain) (get_or xs i nan)
    by i true u q r = let w = ltb-true i a q in rw (not_before a e i w) (before nan a e xs ys h k long i w)
    by i false true q r =
        let w = ltb-false i a q in
        let v = ltb-true i e r in
        rw (is_inside a e i w v) (within nan a e xs ys h k long i w v ∙ mid i w v)
    by i false false q r = let v = ltb-false i e r in rw (not_after a e i v) (after nan a e xs ys h k long i v)

-- ---- the bands of a table
module _ (rate : ℕ) (ten : Bool) (r : rate < 5) where
  pub bands_most : bands_of rate ten ≤ 64
  unfolding bands_of
  bands_most = by rate ten
    where
      by : (s : ℕ) (t : Bool) → bands_of s t ≤ 64
      by zero false = lit≤ tt
      by zero true = lit≤ tt
      by (suc s) t = lit≤ tt

  -- the table as it is handed out
  pub limit_at : (t : List ℕ) (b : ℕ) → t ≡ handed_out (limits_of rate ten) → b ≤ bands_of rate ten → get_or t b 0 ≡ get_or (limits_of rate ten) b 0
  unfolding handed_out
  limit_at t b e h =
      ap (λ (l : List ℕ). get_or l b 0) e
      ∙ get_or_list_of 65 (λ j. get_or (limits_of rate ten) j (get_or (limits_of rate ten) (length (limits_of rate ten) - 1) 0)) 0 b (omega (arith, bands_most))
      ∙ any_default (limits_of rate ten) b _ 0 (rw (limits rate ten r).count (less b (bands_of rate ten) h))
    where
      less : (b n : ℕ) → b ≤ n → b < n + 1
      less b n h = omega arith

      any_default : (xs : List ℕ) (i d e : ℕ) → i < length xs → get_or xs i d ≡ get_or xs i e
      any_default [] i d e h = absurd (omega arith)
      any_default (x ∷ xs) zero d e h = refl
      any_default (x ∷ xs) (suc i) d e h = any_default xs i d e (omega arith)

  pub rises_to : (b m : ℕ) → b ≤ m → m ≤ bands_of rate ten → get_or (limits_of rate ten) b 0 ≤ get_or (limits_of rate ten) m 0
  rises_to b zero h k = le_of_eq (ap (λ (j : ℕ). get_or (limits_of rate ten) j 0) (none b h))
    where
      none : (b : ℕ) → b ≤ 0 → b ≡ 0
      none b h = omega arith
  rises_to b (suc m) h k =
      elim (eq-or-lt_of_le h) [
        | inl e ↦ le_of_eq (ap (λ (j : ℕ). get_or (limits_of rate ten) j 0) e)
        | inr l ↦ le_trans (rises_to b m (omega arith) (omega arith)) (le_of_lt (rw (sym (add-one m)) ((limits rate ten r).rise m (omega arith))))
      ]

  -- a line that the first b bands do not reach
  pub untouched : (gains : List Float) (b i : ℕ) (line : Float) → b ≤ bands_of rate ten → get_or (limits_of rate ten) b 0 ≤ i → shaped_line (limits_of rate ten) gains b i line ≡ line
  unfolding shaped_line
  untouched gains zero i line h k = refl
  untouched gains (suc b) i line h k =
      rw (not_after (get_or (limits_of rate ten) b 0) (get_or (limits_of rate ten) (b + 1) 0) i (rw (add-one b) k))
      (untouched gains b i line (omega arith) (le_trans (rises_to b (suc b) (omega arith) h) k))

  -- one band more
  more_line : (gains : List Float) (b i : ℕ) (line : Float) → b < bands_of rate ten
      → cond (in_band (limits_of rate ten) b i) (mul binary32 (shaped_line (limits_of rate ten) gains b i line) (get_or gains b nan)) (shaped_line (limits_of rate ten) gains b i line)
      ≡ shaped_line (limits_of rate ten) gains (suc b) i line
  unfolding shaped_line
  more_line gains b i line h = by (leb (get_or (limits_of rate ten) b 0) i) refl
    where
      by : (t : Bool) → leb (get_or (limits_of rate ten) b 0) i ≡ t
          → cond (in_band (limits_of rate ten) b i) (mul binary32 (shaped_line (limits_of rate ten) gains b i line) (get_or gains b nan)) (shaped_line (limits_of rate ten) gains b i line)
          ≡ cond (in_band (limits_of rate ten) b i) (mul binary32 line (get_or gains b nan)) (shaped_line (limits_of rate ten) gains b i line)
      by true e =
          ap (λ (x : Float). cond (in_band (limits_of rate ten) b i) (mul binary32 x (get_or gains b nan)) (shaped_line (limits_of rate ten) gains b i line))
          (untouched gains b i line (le_of_lt h) (leb-true (get_or (limits_of rate ten) b 0) i e))
      by false e = rw e

  pub band_more : (gains old lines out : List Float) (b first end : ℕ) → b < bands_of rate ten → first ≡ get_or (limits_of rate ten) b 0 → end ≡ get_or (limits_of rate ten) (b + 1) 0
      → lines ≡ list_of (length old) (λ i. shaped_line (limits_of rate ten) gains b i (get_or old i nan)) → out ≡ scaled_part first end (get_or gains b nan) lines
      → out ≡ list_of (length old) (λ i. shaped_line (limits_of rate ten) gains (b + 1) i (get_or old i nan))
  band_more gains old lines out b first end h p q e f =
      f ∙ rw (p, q, e)
      (ap (λ (m : ℕ). list_of m band) (length_list_of (length old) so_far)
      ∙ same_list_of (length old) band (λ i. shaped_line (limits_of rate ten) gains (b + 1) i (get_or old i nan))
      (λ i l. ap (λ (x : Float). cond (in_band (limits_of rate ten) b i) (mul binary32 x (get_or gains b nan)) x) (get_or_list_of (length old) so_far nan i l)
      ∙ more_line gains b i (get_or old i nan) h ∙ ap (λ (m : ℕ). shaped_line (limits_of rate ten) gains m i (get_or old i nan)) (sym (add-one b))))
    where
      so_far : ℕ → Float
      so_far i = shaped_line (limits_of rate ten) gains b i (get_or old i nan)

      band : ℕ → Float
      band i = cond (in_band (limits_of rate ten) b i) (mul binary32 (get_or (list_of (length old) so_far) i nan) (get_or gains b nan)) (get_or (list_of (length old) so_far) i nan)

  -- no band yet
  pub band_none : (gains old : List Float) → old ≡ list_of (length old) (λ i. shaped_line (limits_of rate ten) gains 0 i (get_or old i nan))
  unfolding shaped_line
  band_none gains old = is_list_of (length old) (λ i. shaped_line (limits_of rate ten) gains 0 i (get_or old i nan)) nan old refl (λ i l. refl)

  -- a line of band b, among the first n bands
  pub in_band_lem : (gains : List Float) (n b i : ℕ) (line : Float) → b < n → n ≤ bands_of rate ten → get_or (limits_of rate ten) b 0 ≤ i → i < get_or (limits_of rate ten) (b + 1) 0
      → shaped_line (limits_of rate ten) gains n i line ≡ mul binary32 line (get_or gains b nan)
  unfolding shaped_line
  in_band_lem gains zero b i line h k p q = absurd (omega arith)
  in_band_lem gains (suc n) b i line h k p q =
      elim (eq-or-lt_of_le h) [
        | inl e ↦ here e
        | inr l ↦ rw (not_before (get_or (limits_of rate ten) n 0) (get_or (limits_of rate ten) (n + 1) 0) i (lt_of_lt_of_le q (rises_to (b + 1) n (omega arith) (omega arith))))
            (in_band_lem gains n b i line (omega arith) (omega arith) p q)
      ]
    where
      here : suc b ≡ suc n → cond (in_band (limits_of rate ten) n i) (mul binary32 line (get_or gains n nan)) (shaped_line (limits_of rate ten) gains n i line) ≡ mul binary32 line (get_or gains b nan)
      here e =
          let w : n ≡ b = omega arith in
          rw w (rw (is_inside (get_or (limits_of rate ten) b 0) (get_or (limits_of rate ten) (b + 1) 0) i p q))
