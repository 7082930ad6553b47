-- Each gain in the code is the written quotient: computed over the whole row.
use mathlib.Core.Path.{refl}
use lib.Ieee.{of_bits}
use Rattle.sns_tables.specs.Gains.{over4096, gain_rows}
use Rattle.sns_tables.proofs.spec_noise_shape_quant_tables.sns_vq_reg_adj_gains.Goals as goal

pub returns : goal.returns
unfolding gain_rows over4096 of_bits
returns c = refl
