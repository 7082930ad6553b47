-- The parts that `enumerate` lends to the numbering: room for each, and their numbers put together. Assumes nothing.
use mathlib.Core.Path.{◌≡◌, refl, ap, ◌∙◌}
use mathlib.Core.List.{List}
use Prim.Native.Nat.{ℕ, zero, suc, ◌-◌, ◌≤◌}
use native.Mathlib.Nat.{le_trans, le_of_eq}
use native.Mathlib.Omega.{arith}
use lib.Dec.{lit≤}
use lib.IntN.{ℤ}
use lib.ListN.{length, take, drop}
use lib.Seq.{take_all}
use Rattle.shapes.specs.declared.PulseSet.{PulseSet}
use Rattle.shapes.specs.Sets.{set_a}
use Rattle.shapes.proofs.Sets.{a_sound}
use Rattle.numbering.specs.Numbering.{pulses_of, index_of, lead_sign}
use Rattle.frame_fields.specs.declared.Numbers.{Numbers}
use Rattle.shape_numbers.specs.Pulses.{part_a, after_a, Shaped}
use Rattle.shape_numbers.specs.Numbers.{of_b, numbers_of}

all_of : (n : ℕ) → n - 0 ≡ n
all_of n = omega arith

-- places 10 to 15 are those after set A's in shape 0
b_is : (shape : ℕ) (y : List ℤ) → Shaped shape y → shape ≡ 0 → take 6 (drop 10 y) ≡ after_a shape y
b_is zero y h z = take_all 6 (drop 10 y) (le_of_eq h.rest.places)
b_is (suc shape) y h z = absurd (omega arith)

pub b_room : (shape : ℕ) (y : List ℤ) → Shaped shape y → shape ≡ 0 → (length (take 6 (drop 10 y)) ≤ 16) × (pulses_of (take 6 (drop 10 y)) ≤ 10)
b_room zero y h z = rw (b_is 0 y h z) (le_trans (le_of_eq h.rest.places) (lit≤ tt), le_trans (le_of_eq h.rest.pulses) (lit≤ tt))
b_room (suc shape) y h z = absurd (omega arith)

-- a number of set B, in use or not
b_used : (shape x : ℕ) → shape ≡ 0 → of_b shape x ≡ x
b_used zero x z = refl
b_used (suc shape) x z = absurd (omega arith)

b_unused : (shape x : ℕ) → (shape ≡ 0 → ⊥) → of_b shape x ≡ 0
b_unused zero x d = absurd (d refl)
b_unused (suc shape) x d = refl

module _ (shape : ℕ) (s : PulseSet) (e : s ≡ set_a shape) (y : List ℤ) where
  a_is : take (s.dimension - 0) y ≡ part_a shape y
  a_is = ap (λ (n : ℕ). take n y) (all_of s.dimension) ∙ ap (λ (p : PulseSet). take p.dimension y) e

  pub a_room : Shaped shape y → (length (take (s.dimension - 0) y) ≤ 16) × (pulses_of (take (s.dimension - 0) y) ≤ 10)
  a_room h =
      rw a_is (le_trans (le_of_eq h.first.places) (a_sound shape).places, le_trans (le_of_eq h.first.pulses) (a_sound shape).few)

  module _ (i a : ℕ) (p : i ≡ index_of (take (s.dimension - 0) y)) (q : a ≡ lead_sign (take (s.dimension - 0) y)) where
    pub a_numbers : (shape ≡ 0 → ⊥) → ◌≡◌ {A = Numbers} (record { sign_a = a; sign_b = 0; index_a = i; index_b = 0 }) (numbers_of shape y)
    unfolding numbers_of
    a_numbers d = rw (p, q, a_is, b_unused shape (lead_sign (after_a shape y)) d, b_unused shape (index_of (after_a shape y)) d)

    pub both_numbers : Shaped shape y → shape ≡ 0 → (j b : ℕ) → j ≡ index_of (take 6 (drop 10 y)) → b ≡ lead_sign (take 6 (drop 10 y))
        → ◌≡◌ {A = Numbers} (record { sign_a = a; sign_b = b; index_a = i; index_b = j }) (numbers_of shape y)
    unfolding numbers_of
    both_numbers h z j b r t =
        rw (p, q, a_is, r, t, b_is shape y h z, b_used shape (lead_sign (after_a shape y)) z, b_used shape (index_of (after_a shape y)) z)
