-- The claims of specs/Claims.antt: accepted fields are synthesised, and so their factors are within. Assumes nothing.
use lib.Dec.{lit<, lit≤}
use lib.ListN.{get_or}
use lib.Ieee.{nan}
use Rattle.float_laws.proofs.Size.{within_up}
use Rattle.frame_fields.specs.declared.Fields.{Fields}
use Rattle.frame_fields.specs.Accepted.{Accepted, numbers_in}
use Rattle.shape_numbers.proofs.Claims.{pulses_shaped}
use Rattle.synthesis.specs.Synthesis.{Synthesisable}
use Rattle.synthesis.proofs.Within.{factors_within_11}
use Rattle.decoder.specs.Decoded.{field_pulses, field_factors}
use Rattle.decoder.specs.Claims.{Within11, Within64}

-- accepted fields have rows, shape and gain within their tables, and pulses of their shape
pub synthesisable : (f : Fields) → Accepted f → Synthesisable f.low_row f.high_row f.shape f.gain (field_pulses f)
synthesisable f h = record { tables = h.tables; shaped = pulses_shaped f.shape (numbers_in f) h.indexed }

pub within_11 : Within11
within_11 f h n l = factors_within_11 _ _ _ _ (field_pulses f) (synthesisable f h) n l

pub within_64 : Within64
within_64 f h n l = within_up (get_or (field_factors f) n nan) 11 1 64 1 (lit< tt) (lit≤ tt) (within_11 f h n l)
