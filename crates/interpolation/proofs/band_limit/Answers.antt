-- The limit in the code is the written one: computed.
use mathlib.Core.Path.{refl}
use lib.Ieee.{of_bits}
use Rattle.float_laws.specs.Decimal.{plus}
use Rattle.interpolation.specs.Bands.{band_limit}
use Rattle.interpolation.proofs.band_limit.Goals as goal

pub returns : goal.returns
unfolding band_limit plus of_bits
returns c = refl
