-- The decoder whole, over a frame's fields. Definitions only.
use Rattle.std.specs.Prelude.{List, ℤ, Float}
use Rattle.frame_fields.specs.declared.Fields.{Fields}
use Rattle.frame_fields.specs.Accepted.{numbers_in}
use Rattle.shape_numbers.specs.Pulses.{pulses_at}
use Rattle.synthesis.specs.Synthesis.{factors_of}

-- the sixteen pulses of the fields
abbrev pub field_pulses : Fields → List ℤ
field_pulses f = pulses_at f.shape (numbers_in f)

-- the sixteen factors of the fields
abbrev pub field_factors : Fields → List Float
field_factors f = factors_of f.low_row f.high_row f.shape f.gain (field_pulses f)
