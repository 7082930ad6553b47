-- What is claimed of a shape's pulses and their numbers, once over the sets. The proofs are in proofs/Claims.antt.
use Rattle.std.specs.Prelude.{◌≡◌, List, ℕ, ℤ}
use Rattle.frame_fields.specs.declared.Numbers.{Numbers}
use Rattle.frame_fields.specs.Accepted.{Indexed}
use Rattle.shape_numbers.specs.Pulses.{Shaped, pulses_at}
use Rattle.shape_numbers.specs.Numbers.{numbers_of, in_use}

-- the numbers of a shape's pulses are in use below their ends
abbrev pub NumbersIndexed : Type 0
NumbersIndexed = (shape : ℕ) (y : List ℤ) → Shaped shape y → Indexed shape (numbers_of shape y)

-- and they lead back to the very pulses
abbrev pub PulsesAgain : Type 0
PulsesAgain = (shape : ℕ) (y : List ℤ) → Shaped shape y → pulses_at shape (numbers_of shape y) ≡ y

-- the pulses of such numbers are as many as the shape has, where it has them
abbrev pub PulsesShaped : Type 0
PulsesShaped = (shape : ℕ) (n : Numbers) → Indexed shape n → Shaped shape (pulses_at shape n)

-- and they lead back to the very numbers, with zero in B's unused places
abbrev pub NumbersAgain : Type 0
NumbersAgain = (shape : ℕ) (n : Numbers) → Indexed shape n → numbers_of shape (pulses_at shape n) ≡ in_use shape n
