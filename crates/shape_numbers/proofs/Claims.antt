-- The claims of specs/Claims.antt: those of the numbering, at the sets of a shape. Assumes nothing.
use mathlib.Core.Path.{◌≡◌, refl, sym, ap, ap₂, ◌∙◌, subst}
use mathlib.Core.List.{List, [], ◌∷◌, ◌++◌}
use Prim.Native.Nat.{ℕ, zero, suc, ◌-◌, ◌<◌}
use native.Mathlib.Nat.{zero-add}
use native.Mathlib.Omega.{arith}
use lib.IntN.{ℤ, pos, negsuc, nat_abs}
use lib.ListN.{length, replicate, length-replicate, take-append-drop}
use lib.Seq.{take_at, drop_at}
use Rattle.shapes.specs.declared.PulseSet.{PulseSet}
use Rattle.shapes.specs.Sets.{set_a, set_b}
use Rattle.shapes.proofs.Sets.{SetSound, a_sound, b_sound}
use Rattle.numbering.specs.Numbering.{PulseVector, pulses_of, lead_sign, index_of, vector_at}
use Rattle.numbering.specs.Claims.{OneToOne}
use Rattle.numbering.proofs.Claims.{claim}
use Rattle.frame_fields.specs.declared.Numbers.{Numbers}
use Rattle.frame_fields.specs.Accepted.{Indexed}
use Rattle.shape_numbers.specs.Pulses.{part_a, after_a, rest_pulses, Shaped, rest_at, pulses_at}
use Rattle.shape_numbers.specs.Numbers.{of_b, numbers_of}
use Rattle.shape_numbers.specs.Claims.{NumbersIndexed, PulsesAgain, PulsesShaped, NumbersAgain}

-- ---- each set is numbered one to one, below its size
in_set : (p : PulseSet) → SetSound p → OneToOne p.dimension p.pulses p.size
in_set p s = subst (OneToOne p.dimension p.pulses) (sym s.sized) (claim p.dimension p.pulses s.some)

in_a : (shape : ℕ) → OneToOne (set_a shape).dimension (set_a shape).pulses (set_a shape).size
in_a shape = in_set (set_a shape) (a_sound shape)

in_b : OneToOne set_b.dimension set_b.pulses set_b.size
in_b = in_set set_b b_sound

-- ---- no pulses are zeros
no_pulses_lem : (m : ℕ) → PulseVector m 0 (replicate m (pos 0))
unfolding pulses_of
no_pulses_lem m = record { places = length-replicate m (pos 0); pulses = sum m }
  where
    sum : (m : ℕ) → pulses_of (replicate m (pos 0)) ≡ 0
    sum zero = refl
    sum (suc m) = zero-add (pulses_of (replicate m (pos 0))) ∙ sum m

no_size : (x : ℤ) → nat_abs x ≡ 0 → x ≡ pos 0
no_size (pos n) e = ap pos e
no_size (negsuc n) e = absurd (omega arith)

zeros : (w : List ℤ) → pulses_of w ≡ 0 → w ≡ replicate (length w) (pos 0)
unfolding pulses_of
zeros [] e = refl
zeros (x ∷ w) e = ap₂ (λ (y : ℤ) (v : List ℤ). y ∷ v) (no_size x (omega arith)) (zeros w (omega arith))

-- ---- from pulses to numbers, and back
b_indexed : (shape : ℕ) (y : List ℤ) → Shaped shape y → shape ≡ 0
    → (of_b shape (lead_sign (after_a shape y)) < 2) × (of_b shape (index_of (after_a shape y)) < set_b.size)
b_indexed zero y h e = in_b.packed (after_a 0 y) h.rest
b_indexed (suc shape) y h e = absurd (omega arith)

pub numbers_indexed : NumbersIndexed
unfolding numbers_of
numbers_indexed shape y h =
    let a = (in_a shape).packed (part_a shape y) h.first in
    record { sign_a = a.0; sign_b = λ e. (b_indexed shape y h e).0; index_a = a.1; index_b = λ e. (b_indexed shape y h e).1 }

rest_again : (shape : ℕ) (y : List ℤ) → Shaped shape y → rest_at shape (numbers_of shape y) ≡ after_a shape y
unfolding numbers_of
rest_again zero y h = in_b.pack_unpack (after_a 0 y) h.rest
rest_again (suc shape) y h = sym (zeros (after_a (suc shape) y) h.rest.pulses ∙ ap (λ (m : ℕ). replicate m (pos 0)) h.rest.places)

pub pulses_again : PulsesAgain
unfolding numbers_of
pulses_again shape y h =
    ap₂ (λ (v : List ℤ) (w : List ℤ). v ++ w) ((in_a shape).pack_unpack (part_a shape y) h.first) (rest_again shape y h)
    ∙ take-append-drop (set_a shape).dimension y

-- ---- from numbers to pulses, and back
module _ (shape : ℕ) (n : Numbers) (h : Indexed shape n) where
  abbrev v : List ℤ
  v = vector_at (set_a shape).dimension (set_a shape).pulses n.sign_a n.index_a

  first : PulseVector (set_a shape).dimension (set_a shape).pulses v
  first = (in_a shape).unpacked n.sign_a n.index_a h.sign_a h.index_a

  a_is : part_a shape (pulses_at shape n) ≡ v
  a_is = take_at v (rest_at shape n) (set_a shape).dimension first.places

  after_is : after_a shape (pulses_at shape n) ≡ rest_at shape n
  after_is = drop_at v (rest_at shape n) (set_a shape).dimension first.places

rest_shaped : (shape : ℕ) (n : Numbers) → Indexed shape n → PulseVector (16 - (set_a shape).dimension) (rest_pulses shape) (rest_at shape n)
rest_shaped zero n h = in_b.unpacked n.sign_b n.index_b (h.sign_b refl) (h.index_b refl)
rest_shaped (suc shape) n h = no_pulses_lem (16 - (set_a (suc shape)).dimension)

pub pulses_shaped : PulsesShaped
pulses_shaped shape n h = record {
  first = subst (PulseVector (set_a shape).dimension (set_a shape).pulses) (sym (a_is shape n h)) (first shape n h);
  rest = subst (PulseVector (16 - (set_a shape).dimension) (rest_pulses shape)) (sym (after_is shape n h)) (rest_shaped shape n h);
}

b_again : (shape : ℕ) (n : Numbers) → Indexed shape n → (of_b shape (lead_sign (rest_at shape n)) ≡ of_b shape n.sign_b) × (of_b shape (index_of (rest_at shape n)) ≡ of_b shape n.index_b)
b_again zero n h = in_b.unpack_pack n.sign_b n.index_b (h.sign_b refl) (h.index_b refl)
b_again (suc shape) n h = (refl, refl)

pub numbers_again : NumbersAgain
unfolding numbers_of
numbers_again shape n h =
    let a = (in_a shape).unpack_pack n.sign_a n.index_a h.sign_a h.index_a in
    let b = b_again shape n h in
    rw (a_is shape n h, after_is shape n h, a.0, a.1, b.0, b.1)
