-- The numbers of a shape's pulses. Definitions only.
use Rattle.std.specs.Prelude.{List, ℕ, zero, suc, ℤ}
use Rattle.numbering.specs.Numbering.{index_of, lead_sign}
use Rattle.frame_fields.specs.declared.Numbers.{Numbers}
use Rattle.shape_numbers.specs.Pulses.{part_a, after_a}

-- B's index and lead sign are zero in shapes 1 to 3
abbrev pub of_b : ℕ → ℕ → ℕ
of_b zero number = number
of_b (suc shape) number = 0

-- the lead sign and the index of each set's places
unfoldable pub numbers_of : ℕ → List ℤ → Numbers
numbers_of shape y = record {
  sign_a = lead_sign (part_a shape y);
  sign_b = of_b shape (lead_sign (after_a shape y));
  index_a = index_of (part_a shape y);
  index_b = of_b shape (index_of (after_a shape y));
}

-- the numbers with zero in B's unused places
abbrev pub in_use : ℕ → Numbers → Numbers
in_use shape n = record { sign_a = n.sign_a; sign_b = of_b shape n.sign_b; index_a = n.index_a; index_b = of_b shape n.index_b }
