-- The sixteen pulses of a shape: set A's, set B's in shape 0 alone, and zeros elsewhere. Definitions only.
use Rattle.std.specs.Prelude.{List, ◌++◌, ℕ, zero, suc, ◌-◌, ℤ, pos, take, drop, replicate}
use Rattle.shapes.specs.Sets.{set_a, set_b}
use Rattle.numbering.specs.Numbering.{PulseVector, vector_at}
use Rattle.frame_fields.specs.declared.Numbers.{Numbers}

-- the places of set A: the first ten in shapes 0 and 1, all sixteen in shapes 2 and 3
abbrev pub part_a : ℕ → List ℤ → List ℤ
part_a shape y = take (set_a shape).dimension y

-- the places after them: set B's in shape 0, 10 to 15
abbrev pub after_a : ℕ → List ℤ → List ℤ
after_a shape y = drop (set_a shape).dimension y

-- how many pulses these hold
abbrev pub rest_pulses : ℕ → ℕ
rest_pulses zero = set_b.pulses
rest_pulses (suc shape) = 0

-- y has as many pulses as the shape, where it has them: set A's on the first places, and the rest's after them
pub record Shaped (shape : ℕ) (y : List ℤ) : Type 0 where
  pub first : PulseVector (set_a shape).dimension (set_a shape).pulses (part_a shape y)
  pub rest : PulseVector (16 - (set_a shape).dimension) (rest_pulses shape) (after_a shape y)

-- the places after set A's: set B's vector in shape 0, and zeros elsewhere
abbrev pub rest_at : ℕ → Numbers → List ℤ
rest_at zero n = vector_at set_b.dimension set_b.pulses n.sign_b n.index_b
rest_at (suc shape) n = replicate (16 - (set_a (suc shape)).dimension) (pos 0)

-- the sixteen pulses of a shape's numbers: set A's vector, then the rest
abbrev pub pulses_at : ℕ → Numbers → List ℤ
pulses_at shape n = vector_at (set_a shape).dimension (set_a shape).pulses n.sign_a n.index_a ++ rest_at shape n
