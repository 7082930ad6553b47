-- The signed pulses of each shape: a sign changes no size, so they are as many as the shape has, where it has them. Assumes nothing.
use mathlib.Core.Path.{◌≡◌, refl, sym, ap, ap₂, ◌∙◌, subst}
use mathlib.Core.List.{List}
use Prim.Native.Nat.{ℕ, zero, suc, ◌+◌, ◌-◌, ◌≤◌, ◌<◌}
use native.Mathlib.Nat.{le_trans, le_of_eq, le_of_lt}
use native.Mathlib.Omega.{arith}
use lib.Dec.{lit≤}
use lib.IntN.{ℤ, pos, nat_abs}
use lib.ListN.{length, get_or, take, drop, length-drop, take-append-drop}
use lib.Seq.{length-take-le, take_all}
use lib.Ieee.{Float, nan}
use Rattle.list_laws.proofs.ListOf.{length_list_of, get_or_list_of}
use Rattle.shapes.specs.Sets.{set_a}
use Rattle.shapes.proofs.Sets.{a_sound}
use Rattle.numbering.specs.Numbering.{pulses_of, PulseVector, signed}
use Rattle.numbering.proofs.Counts.{pulses_append, pulses_next}
use Rattle.shape_numbers.specs.Pulses.{rest_pulses}
use Rattle.pulse_search.specs.Pulse.{total_to}
use Rattle.pulse_search.proofs.Sums.{total_suc, total_zero}
use Rattle.shape_search.specs.Shape.{shape_pulses}
use Rattle.shape_search.proofs.Facts.{zero_low, zero_total, one_low, one_total, two_total, three_total}
use Rattle.stage2_target.specs.Target.{absolutes_of}
use Rattle.stage2.specs.Stage2.{sign_of, signed_row, pulses_for}
use Rattle.stage2.specs.Claims.{SignedShaped}

-- a sign changes no size
signed_size : (s d : ℕ) → nat_abs (signed s d) ≡ d
unfolding signed
signed_size zero d = refl
signed_size (suc s) zero = refl
signed_size (suc s) (suc d) = refl

-- ---- pulses with signs, and how many stand where
module _ (t : List Float) (y : List ℕ) where
  abbrev v : List ℤ
  v = signed_row t y

  sixteen : length v ≡ 16
  unfolding signed_row
  sixteen = length_list_of 16 _

  size_at : (n : ℕ) → n < 16 → nat_abs (get_or v n (pos 0)) ≡ get_or y n 0
  unfolding signed_row
  size_at n h = ap nat_abs (get_or_list_of 16 (λ n. signed (sign_of (get_or t n nan)) (get_or y n 0)) (pos 0) n h) ∙ signed_size (sign_of (get_or t n nan)) (get_or y n 0)

  -- the first n places
  counted : (n : ℕ) → n ≤ 16 → pulses_of (take n v) ≡ total_to y n
  unfolding pulses_of
  counted zero h = sym (total_zero y)
  counted (suc n) h = pulses_next v n (subst (λ (m : ℕ). n < m) (sym sixteen) h) ∙ ap₂ (λ (a : ℕ) (b : ℕ). a + b) (counted n (le_of_lt h)) (size_at n h) ∙ sym (total_suc y n)

  all_counted : pulses_of v ≡ total_to y 16
  all_counted = ap pulses_of (sym (take_all 16 v (le_of_eq sixteen))) ∙ counted 16 (lit≤ tt)

  first_places : (n k : ℕ) → n ≤ 16 → total_to y n ≡ k → PulseVector n k (take n v)
  first_places n k h e = record { places = length-take-le n v (le_trans h (le_of_eq (sym sixteen))); pulses = counted n h ∙ e }

  -- and those after them
  other_places : (n j k : ℕ) → n ≤ 16 → total_to y n ≡ j → total_to y 16 ≡ j + k → PulseVector (16 - n) k (drop n v)
  other_places n j k h e f = record {
    places = length-drop n v ∙ ap (λ (m : ℕ). m - n) sixteen;
    pulses = rest (pulses_of (take n v)) (pulses_of (drop n v)) (counted n h ∙ e) (sym (pulses_append (take n v) (drop n v)) ∙ ap pulses_of (take-append-drop n v) ∙ all_counted ∙ f);
  }
    where
      rest : (a b : ℕ) → a ≡ j → a + b ≡ j + k → b ≡ k
      rest a b p q = omega arith

-- ---- as many as the shape has
low_totals : (a : List Float) (s : ℕ) → total_to (shape_pulses a s) (set_a s).dimension ≡ (set_a s).pulses
unfolding shape_pulses
low_totals a zero = zero_low a
low_totals a (suc zero) = one_low a
low_totals a (suc (suc zero)) = two_total a
low_totals a (suc (suc (suc s))) = three_total a

all_totals : (a : List Float) (s : ℕ) → total_to (shape_pulses a s) 16 ≡ (set_a s).pulses + rest_pulses s
unfolding shape_pulses
all_totals a zero = zero_total a
all_totals a (suc zero) = one_total a
all_totals a (suc (suc zero)) = two_total a
all_totals a (suc (suc (suc s))) = three_total a

pub signed_shaped : SignedShaped
signed_shaped t s = record {
  first = first_places t (pulses_for t s) (set_a s).dimension (set_a s).pulses (a_sound s).places (low_totals (absolutes_of t) s);
  rest = other_places t (pulses_for t s) (set_a s).dimension (set_a s).pulses (rest_pulses s) (a_sound s).places (low_totals (absolutes_of t) s) (all_totals (absolutes_of t) s);
}
