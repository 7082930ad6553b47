-- The laws of single pulses. Assumes nothing.
use mathlib.Core.Path.{◌≡◌, refl, sym, ap, ◌∙◌}
use mathlib.Core.Bool.{true, false}
use mathlib.Core.List.{List}
use Prim.Native.Nat.{ℕ, zero, suc, ◌+◌, ◌≤◌, ◌<◌}
use native.Mathlib.Numerals.{add-one}
use native.Mathlib.Omega.{arith}
use borrow.Author.Rules.{read_above}
use lib.ListN.{length, get_or, set, length-set}
use lib.Ieee.{Float}
use Rattle.float_laws.proofs.Scan.{scan_none, scan_move, scan_keep, scan_under}
use Rattle.pulse_search.specs.declared.SearchRecord.{SearchRecord}
use Rattle.pulse_search.specs.Pulse.{pair_at, replaces, best_to, Search, start, one_pulse, more, total_to}
use Rattle.pulse_search.proofs.Sums.{place_le, total_one}

-- ---- the best place, one more place at a time
module _ (a : List Float) (y : List ℕ) (r : SearchRecord) where
  pub best_zero : 0 ≡ best_to a y r 0
  unfolding best_to
  best_zero = scan_none (λ n best. replaces (pair_at a y r n) (pair_at a y r best))

  -- place n, after the best of the places up to m, the one before it
  module _ (m n b : ℕ) (i : n ≡ m + 1) (e : b ≡ best_to a y r m) (p t : SearchRecord) (h : p ≡ pair_at a y r n) (k : t ≡ pair_at a y r b) where
    pub best_move : replaces p t ≡ true → n ≡ best_to a y r n
    unfolding best_to
    best_move w = rw i (scan_move (λ n best. replaces (pair_at a y r n) (pair_at a y r best)) m b e (rw (h, k, i) at w))

    pub best_keep : replaces p t ≡ false → b ≡ best_to a y r n
    unfolding best_to
    best_keep w = rw i (scan_keep (λ n best. replaces (pair_at a y r n) (pair_at a y r best)) m b e (rw (h, k, i) at w))

  pub best_le : (m : ℕ) → best_to a y r m ≤ m
  unfolding best_to
  best_le m = scan_under (λ n best. replaces (pair_at a y r n) (pair_at a y r best)) m

-- ---- k pulses
pub more_suc : (a : List Float) (m k : ℕ) (s : Search) → more a m (suc k) s ≡ one_pulse a m (more a m k s)
unfolding more
more_suc a m k s = refl

pub more_zero : (a : List Float) (m : ℕ) (s : Search) → more a m 0 s ≡ s
unfolding more
more_zero a m s = refl

-- j pulses and then k
pub more_more : (a : List Float) (last j : ℕ) (s : Search) (k : ℕ) → more a last k (more a last j s) ≡ more a last (k + j) s
more_more a last j s zero = more_zero a last (more a last j s) ∙ ap (λ (n : ℕ). more a last n s) (none j)
  where
    none : (j : ℕ) → j ≡ 0 + j
    none j = omega arith
more_more a last j s (suc k) = more_suc a last k (more a last j s) ∙ ap (one_pulse a last) (more_more a last j s k) ∙ sym (more_suc a last (k + j) s) ∙ ap (λ (n : ℕ). more a last n s) (one k j)
  where
    one : (k j : ℕ) → suc (k + j) ≡ suc k + j
    one k j = omega arith

one_pulses : (a : List Float) (m : ℕ) (s : Search) → (one_pulse a m s).pulses ≡ set s.pulses (best_to a s.pulses s.pair m) (get_or s.pulses (best_to a s.pulses s.pair m) 0 + 1)
unfolding one_pulse
one_pulses a m s = refl

one_length : (a : List Float) (m : ℕ) (s : Search) → length (one_pulse a m s).pulses ≡ length s.pulses
one_length a m s = ap length (one_pulses a m s) ∙ simp length-set

pub more_length : (a : List Float) (m k : ℕ) (s : Search) → length (more a m k s).pulses ≡ length s.pulses
more_length a m zero s = ap (λ (t : Search). length t.pulses) (more_zero a m s)
more_length a m (suc k) s = ap (λ (t : Search). length t.pulses) (more_suc a m k s) ∙ one_length a m (more a m k s) ∙ more_length a m k s

module _ (a : List Float) (m n : ℕ) (h : m < n) where
  one_total : (s : Search) → n ≤ length s.pulses → total_to (one_pulse a m s).pulses n ≡ total_to s.pulses n + 1
  one_total s l =
      let b = best_to a s.pulses s.pair m in
      let i : b < n = omega (arith, best_le a s.pulses s.pair m) in
      ap (λ (y : List ℕ). total_to y n) (one_pulses a m s) ∙ total_one s.pulses b n i (omega (arith, best_le a s.pulses s.pair m))

  -- every pulse counts
  pub more_total : (k : ℕ) (s : Search) → n ≤ length s.pulses → total_to (more a m k s).pulses n ≡ total_to s.pulses n + k
  more_total zero s l = rw more_zero (omega arith)
  more_total (suc k) s l =
      rw more_suc
      (omega (arith, one_total (more a m k s) (omega (arith, more_length a m k s)), more_total k s l))

  -- places past the last stay
  one_past : (s : Search) (i : ℕ) → n ≤ i → get_or (one_pulse a m s).pulses i 0 ≡ get_or s.pulses i 0
  one_past s i l =
      let b = best_to a s.pulses s.pair m in
      let j : b < i = omega (arith, best_le a s.pulses s.pair m) in
      ap (λ (y : List ℕ). get_or y i 0) (one_pulses a m s) ∙ read_above ℕ s.pulses b i (get_or s.pulses b 0 + 1) 0 (get_or s.pulses i 0) j refl

  pub more_past : (k : ℕ) (s : Search) (i : ℕ) → n ≤ i → get_or (more a m k s).pulses i 0 ≡ get_or s.pulses i 0
  more_past zero s i l = rw more_zero
  more_past (suc k) s i l = rw more_suc (one_past (more a m k s) i l ∙ more_past k s i l)

-- ---- a turn of the code
pub search_start : (a : List Float) (m : ℕ) (y : List ℕ) (r : SearchRecord) → start y r ≡ more a m 0 (start y r)
search_start a m y r = sym (more_zero a m (start y r))

pub search_step : (a : List Float) (m j : ℕ) (s : Search) (y : List ℕ) (r : SearchRecord) (b : ℕ) (p : SearchRecord) → start y r ≡ more a m j s
    → b ≡ best_to a y r m → p ≡ pair_at a y r b → start (set y b (get_or y b 0 + 1)) p ≡ more a m (j + 1) s
unfolding one_pulse
search_step a m j s y r b p e eb ep =
    rw (add-one j, more_suc) (rw (ep, eb) (ap (one_pulse a m) e))

pub best_under : (a : List Float) (y : List ℕ) (r : SearchRecord) (b m n : ℕ) → b ≡ best_to a y r m → m < n → b < n
best_under a y r b m n e h = omega (arith, best_le a y r m)

-- a place's pulses while fewer than k were added
pub more_fits : (a : List Float) (m j k n t b : ℕ) (s : Search) (y : List ℕ) → m < n → n ≤ length s.pulses → y ≡ (more a m j s).pulses → b < n → j < k → total_to s.pulses n + k ≤ t → get_or y b 0 + 1 ≤ t
more_fits a m j k n t b s y h l e i g f =
    omega (arith, place_le (more a m j s).pulses b n i, more_total a m n h j s l, ap (λ (z : List ℕ). get_or z b 0) e)

pub one_pair : (a : List Float) (m : ℕ) (s : Search) → (one_pulse a m s).pair ≡ pair_at a s.pulses s.pair (best_to a s.pulses s.pair m)
unfolding one_pulse
one_pair a m s = refl
