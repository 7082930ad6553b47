-- The limit in the code is the written one: computed.
use mathlib.Core.Path.{refl}
use lib.Ieee.{of_bits}
use Rattle.float_laws.specs.Decimal.{plus}
use Rattle.factor.specs.Check.{factor_limit}
use Rattle.factor.proofs.factor_limit.Goals as goal

pub returns : goal.returns
unfolding factor_limit plus of_bits
returns c = refl
