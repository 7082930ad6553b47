-- Accepted fields are synthesised, and each table is what it is lent as.
use mathlib.Core.Path.{◌∙◌}
use Rattle.decoder.proofs.Claims.{synthesisable}
use Rattle.decoder.proofs.factors.Goals as goal

pub pulses-y-requires : goal.pulses-y-requires
pulses-y-requires c = c.requires.tables.shape_below

pub factors-requires : goal.factors-requires
factors-requires c = rw c.pulses-y.ensures (synthesisable _ c.requires)

pub returns : goal.returns
returns c = c.factors.ensures ∙ rw c.pulses-y.ensures
