-- The four halved sums, and behind them the bands from 8 on.
use mathlib.Core.Path.{◌∙◌}
use lib.Ieee.{of_bits}
use Rattle.std.proofs.lemmas.List.{append-nil}
use Rattle.float_laws.specs.Decimal.{plus}
use Rattle.interpolation.proofs.Laws.{halves}
use Rattle.interpolation.proofs.reduce.Goals as goal

pub returns : goal.returns
unfolding plus of_bits
returns c = halves _ _ c.requires (append-nil _ ∙ c.copy_from_slice.ensures.after)
