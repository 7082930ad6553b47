-- The bands by their numbers, and what a turn of each loop leaves. Assumes nothing.
use mathlib.Core.Path.{◌≡◌, refl, ap, ◌∙◌}
use mathlib.Core.Bool.{Bool, true, false, cond}
use mathlib.Core.List.{List, ◌∷◌}
use Prim.Native.Nat.{ℕ, zero, suc, ◌+◌, ◌*◌, ◌/◌, ◌%◌, ◌<◌}
use native.Mathlib.Omega.{arith}
use borrow.Author.Tests.{lt-ltb, le-ltb, ltb-true, ne_eqb}
use lib.Dec.{ltb, lit<}
use lib.ListN.{length, get_or, set, take, drop, length-drop}
use lib.Ieee.{Float, nan}
use lib.Seq.{get_or-take, get_or-drop, length-take-le}
use Rattle.list_laws.specs.ListOf.{list_of}
use Rattle.list_laws.proofs.ListOf.{is_list_of, get_or_list_of, same_list_of}
use Rattle.list_laws.proofs.Range.{Holds, holds_up}
use Rattle.interpolation.specs.Bands.{factor_at, between, past, band_of, halved_sum, narrow_of, interpolated}

-- ---- 64 bands
band_between : (f : List Float) (n j b : ℕ) → n < 15 → j < 4 → b ≡ 4 * n + 2 + j → between f n j ≡ band_of f b
unfolding band_of
band_between f n j b h k e = rw (e, shift n j) (rw (quotient n j k, remainder n j k, lt-ltb n 15 h))
  where
    shift : (n j : ℕ) → 4 * n + 2 + j ≡ suc (suc (4 * n + j))
    shift n j = omega arith

    quotient : (n j : ℕ) → j < 4 → (4 * n + j) / 4 ≡ n
    quotient n j k = omega arith

    remainder : (n j : ℕ) → j < 4 → (4 * n + j) % 4 ≡ j
    remainder n j k = omega arith

-- bands 0 and 1
pub first_two : (f ys : List Float) → length ys ≡ 64 → get_or ys 0 nan ≡ factor_at f 0 → get_or ys 1 nan ≡ factor_at f 0 → Holds nan (band_of f) 64 ys 0 2
unfolding band_of
first_two f ys l p q = record { size = l; at = λ j a h. by j h }
  where
    by : (j : ℕ) → j < 2 → get_or ys j nan ≡ band_of f j
    by zero h = p
    by (suc zero) h = q
    by (suc (suc j)) h = absurd (omega arith)

-- bands 4n+2 to 4n+5
pub next_four : (f ys : List Float) (n : ℕ) → n < 15 → Holds nan (band_of f) 64 ys 0 (4 * n + 2)
    → Holds nan (band_of f) 64 (set (set (set (set ys (4 * n + 2) (between f n 0)) (4 * n + 3) (between f n 1)) (4 * n + 4) (between f n 2)) (4 * n + 5) (between f n 3)) 0 (4 * (n + 1) + 2)
next_four f ys n l h =
    holds_up nan (band_of f) 64 _ (4 * n + 5) (between f n 3) 0 (4 * n + 5) (4 * (n + 1) + 2) refl (omega arith) (omega arith) (band_between f n 3 (4 * n + 5) l (lit< tt) (omega arith))
    (holds_up nan (band_of f) 64 _ (4 * n + 4) (between f n 2) 0 (4 * n + 4) (4 * n + 5) refl (omega arith) (omega arith) (band_between f n 2 (4 * n + 4) l (lit< tt) (omega arith))
    (holds_up nan (band_of f) 64 _ (4 * n + 3) (between f n 1) 0 (4 * n + 3) (4 * n + 4) refl (omega arith) (omega arith) (band_between f n 1 (4 * n + 3) l (lit< tt) (omega arith))
    (holds_up nan (band_of f) 64 _ (4 * n + 2) (between f n 0) 0 (4 * n + 2) (4 * n + 3) refl (omega arith) (omega arith) (band_between f n 0 (4 * n + 2) l (lit< tt) (omega arith)) h)))

-- bands 62 and 63
pub last_two : (f ys : List Float) → Holds nan (band_of f) 64 ys 0 62 → Holds nan (band_of f) 64 (set (set ys 62 (past f 0)) 63 (past f 1)) 0 64
unfolding band_of
last_two f ys h =
    holds_up nan (band_of f) 64 _ 63 (past f 1) 0 63 64 refl refl (lit< tt) refl
    (holds_up nan (band_of f) 64 _ 62 (past f 0) 0 62 63 refl refl (lit< tt) refl h)

-- ---- 60 bands
-- bands 0 to 3, and the others moved down by four
pub halves : (old rest : List Float) → length old ≡ 64 → rest ≡ take 56 (drop 8 old)
    → halved_sum (get_or old 0 nan) (get_or old 1 nan) ∷ halved_sum (get_or old 2 nan) (get_or old 3 nan) ∷ halved_sum (get_or old 4 nan) (get_or old 5 nan)
    ∷ halved_sum (get_or old 6 nan) (get_or old 7 nan) ∷ rest
    ≡ list_of 60 (narrow_of (λ i. get_or old i nan))
unfolding narrow_of
halves old rest l e = is_list_of 60 _ nan _ (rw e (omega (arith, length-take-le 56 (drop 8 old) (omega (arith, length-drop 8 old))))) by
  where
    place : (i : ℕ) → 8 + i ≡ suc (suc (suc (suc i))) + 4
    place i = omega arith

    by : (i : ℕ) → i < 60
        → get_or (halved_sum (get_or old 0 nan) (get_or old 1 nan) ∷ halved_sum (get_or old 2 nan) (get_or old 3 nan) ∷ halved_sum (get_or old 4 nan) (get_or old 5 nan)
        ∷ halved_sum (get_or old 6 nan) (get_or old 7 nan) ∷ rest) i nan
        ≡ narrow_of (λ i. get_or old i nan) i
    by zero h = refl
    by (suc zero) h = refl
    by (suc (suc zero)) h = refl
    by (suc (suc (suc zero))) h = refl
    by (suc (suc (suc (suc i)))) h =
        rw (e, le-ltb (suc (suc (suc (suc i)))) 4 (omega arith)) (get_or-take 56 (drop 8 old) i nan (omega arith) ∙ get_or-drop 8 old i nan ∙ ap (λ (j : ℕ). get_or old j nan) (place i))

-- made of the 64 bands
old_bands : (f : List Float) → list_of 60 (narrow_of (λ i. get_or (list_of 64 (band_of f)) i nan)) ≡ list_of 60 (narrow_of (band_of f))
unfolding narrow_of
old_bands f = same_list_of 60 (narrow_of (λ i. get_or (list_of 64 (band_of f)) i nan)) (narrow_of (band_of f)) (λ i l. by i (ltb i 4) refl l)
  where
    known : (i : ℕ) → i < 64 → get_or (list_of 64 (band_of f)) i nan ≡ band_of f i
    known i l = get_or_list_of 64 (band_of f) nan i l

    by : (i : ℕ) (t : Bool) → ltb i 4 ≡ t → i < 60
        → cond (ltb i 4) (halved_sum (get_or (list_of 64 (band_of f)) (2 * i) nan) (get_or (list_of 64 (band_of f)) (2 * i + 1) nan)) (get_or (list_of 64 (band_of f)) (i + 4) nan)
        ≡ cond (ltb i 4) (halved_sum (band_of f (2 * i)) (band_of f (2 * i + 1))) (band_of f (i + 4))
    by i true e l = let h = ltb-true i 4 e in rw (e, known (2 * i) (omega arith), known (2 * i + 1) (omega arith))
    by i false e l = rw (e, known (i + 4) (omega arith))

-- ---- what the lent bands hold at return
pub narrow : (f old out : List Float) (count : ℕ) → count ≡ 60 → old ≡ list_of 64 (band_of f) → out ≡ list_of 60 (narrow_of (λ i. get_or old i nan)) → out ≡ interpolated f count
unfolding interpolated
narrow f old out count e p q = q ∙ rw (e, p) (old_bands f)

pub wide : (f out : List Float) (count : ℕ) → (count ≡ 60 → ⊥) → out ≡ list_of 64 (band_of f) → out ≡ interpolated f count
unfolding interpolated
wide f out count d p = p ∙ rw (ne_eqb count 60 d)
