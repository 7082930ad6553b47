-- Each f32 of the table in the code is the decimal of the source, rounded once: computed over the whole table.
use mathlib.Core.Path.{refl}
use lib.Ieee.{of_bits}
use Rattle.float_laws.specs.Decimal.{plus, minus}
use Rattle.sns_tables.specs.Codebooks.{hfcb_rows}
use Rattle.sns_tables.proofs.spec_noise_shape_quant_tables.hfcb.Goals as goal

pub returns : goal.returns
unfolding hfcb_rows plus minus of_bits
returns c = refl
