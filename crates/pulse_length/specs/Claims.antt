-- What is claimed of a shape's pulses. The proof is in proofs/Squares.antt.
use Rattle.std.specs.Prelude.{List, ℕ, ℤ}
use Rattle.shape_numbers.specs.Pulses.{Shaped}
use Rattle.pulse_length.specs.Length.{Sixteen}

-- the pulses of a shape are sixteen, each at most 10 in size, and their squared length is a whole number from 1 to 101
abbrev pub ShapedSixteen : Type 0
ShapedSixteen = (shape : ℕ) (y : List ℤ) → Shaped shape y → Sixteen y
