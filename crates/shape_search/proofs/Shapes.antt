-- One step more of each loop over the shapes' places. Assumes nothing.
use mathlib.Core.Path.{◌≡◌, refl, sym, ap, ◌∙◌}
use mathlib.Core.Bool.{true, false}
use mathlib.Core.List.{List, [], ◌∷◌}
use Prim.Native.Nat.{ℕ, suc, ◌+◌, ◌-◌, ◌≤◌, ◌<◌}
use native.Mathlib.Omega.{arith}
use lib.ListN.{length, get_or, set}
use lib.Ieee.{Float, nan, lt}
use Rattle.float_laws.specs.Scan.{scan_to}
use Rattle.float_laws.proofs.Scan.{scan_move, scan_keep}
use Rattle.list_laws.specs.ListOf.{list_of}
use Rattle.pulse_search.specs.declared.SearchRecord.{SearchRecord}
use Rattle.pulse_search.specs.Pulse.{Search, start, more, total_to, up_to}
use Rattle.projection.specs.Projection.{projection, begun_of}
use Rattle.projection.specs.declared.Start.{Start}
use Rattle.shape_search.specs.Shape.{shape3, shape2, low_of, dropped_to, lowered, shape1, largest_to, shape0, shape_pulses}
use Rattle.shape_search.proofs.Facts.{three_total}

-- ---- the largest place from 10 on
module _ (a : List Float) (n b : ℕ) (e : b ≡ largest_to a n) where
  best : ℕ
  best = scan_to (λ n best. lt (get_or a (10 + best) nan) (get_or a (10 + n) nan)) n

  moved : lt (get_or a b nan) (get_or a (10 + (n + 1)) nan) ≡ true → 10 + (n + 1) ≡ largest_to a (n + 1)
  unfolding largest_to best
  moved w = ap (λ (k : ℕ). 10 + k) (scan_move (λ n best. lt (get_or a (10 + best) nan) (get_or a (10 + n) nan)) n best refl (rw e at w))

  kept : lt (get_or a b nan) (get_or a (10 + (n + 1)) nan) ≡ false → b ≡ largest_to a (n + 1)
  unfolding largest_to best
  kept w = e ∙ ap (λ (k : ℕ). 10 + k) (scan_keep (λ n best. lt (get_or a (10 + best) nan) (get_or a (10 + n) nan)) n best refl (rw e at w))

-- as the loop counts, from place 11 on
module _ (a : List Float) (n b : ℕ) (h : 11 ≤ n) (e : b ≡ largest_to a (n - 11)) where
  place : 10 + (n - 11 + 1) ≡ n
  place = omega arith

  turn : n + 1 - 11 ≡ n - 11 + 1
  turn = omega arith

  pub largest_move : lt (get_or a b nan) (get_or a n nan) ≡ true → n ≡ largest_to a (n + 1 - 11)
  largest_move w = rw turn (sym place ∙ moved a (n - 11) b e (ap (λ (k : ℕ). lt (get_or a b nan) (get_or a k nan)) place ∙ w))

  pub largest_keep : lt (get_or a b nan) (get_or a n nan) ≡ false → b ≡ largest_to a (n + 1 - 11)
  largest_keep w = rw turn (kept a (n - 11) b e (ap (λ (k : ℕ). lt (get_or a b nan) (get_or a k nan)) place ∙ w))

-- ---- from shape to shape, as the code goes on: its pulses and its pair are those of the search s
pub record Reached (s : Search) (y : List ℕ) (r : SearchRecord) : Type 0 where
  pub pulses : y ≡ s.pulses
  pub pair : r ≡ s.pair

pub begun : (s : Search) (b : Start) → b ≡ begun_of s → Reached s b.y b.pair
begun s b e = record { pulses = ap (λ (b : Start). b.y) e; pair = ap (λ (b : Start). b.pair) e }

-- `add_unit_pulse` from k pulses up to m
module _ (a : List Float) (s : Search) (y : List ℕ) (r : SearchRecord) (h : Reached s y r) where
  on : (last k m : ℕ) → k ≡ total_to s.pulses (suc last) → (z : List ℕ) (p : SearchRecord) → z ≡ (more a last (m - k) (start y r)).pulses → p ≡ (more a last (m - k) (start y r)).pair
      → Reached (up_to a last m s) z p
  on last k m t z p i j = record { pulses = rw (h.pulses, h.pair, t) at i; pair = rw (h.pulses, h.pair, t) at j }

  pub on_low : (z : List ℕ) (p : SearchRecord) → z ≡ low_of y → p ≡ dropped_to a y r 6 → Reached (lowered a s) z p
  unfolding lowered
  on_low z p i j = record { pulses = rw h.pulses at i; pair = rw (h.pulses, h.pair) at j }

  -- the room that it asks, for a total of at most t
  pub room : (last k m t : ℕ) → last < 16 → length s.pulses ≡ 16 → total_to s.pulses 16 ≤ t → k ≤ m → t + m ≤ 255 → (last < 16) × (length y ≡ 16) × (k ≤ m) × (total_to y 16 + (m - k) ≤ 255)
  room last k m t i l g j u = (i, ap length h.pulses ∙ l, j, omega (arith, ap (λ (z : List ℕ). total_to z 16) h.pulses))

module _ (a : List Float) (y z : List ℕ) (r p : SearchRecord) (k : ℕ) where
  pub on_three : Reached (projection a) y r → k ≡ total_to (projection a).pulses 16 → z ≡ (more a 15 (6 - k) (start y r)).pulses → p ≡ (more a 15 (6 - k) (start y r)).pair → Reached (shape3 a) z p
  unfolding shape3
  on_three h t i j = on a (projection a) y r h 15 k 6 t z p i j

  pub on_two : Reached (shape3 a) y r → z ≡ (more a 15 (8 - 6) (start y r)).pulses → p ≡ (more a 15 (8 - 6) (start y r)).pair → Reached (shape2 a) z p
  unfolding shape2
  on_two h i j = on a (shape3 a) y r h 15 6 8 (sym (three_total a)) z p i j

  pub on_one : Reached (lowered a (shape2 a)) y r → k ≡ total_to y 10 → z ≡ (more a 9 (10 - k) (start y r)).pulses → p ≡ (more a 9 (10 - k) (start y r)).pair → Reached (shape1 a) z p
  unfolding shape1
  on_one h t i j = on a (lowered a (shape2 a)) y r h 9 k 10 (t ∙ ap (λ (w : List ℕ). total_to w 10) h.pulses) z p i j

-- ---- all four
pub four_are : (a : List Float) (y0 y1 y2 y3 : List ℕ) (b : ℕ) → y1 ≡ (shape1 a).pulses → b ≡ largest_to a 5 → y2 ≡ (shape2 a).pulses → y3 ≡ (shape3 a).pulses → y0 ≡ y1
    → set y0 b 1 ∷ y1 ∷ y2 ∷ y3 ∷ [] ≡ list_of 4 (shape_pulses a)
unfolding list_of shape_pulses shape0
four_are a y0 y1 y2 y3 b e1 eb e2 e3 e0 = rw (e0, e1, eb, e2, e3)
