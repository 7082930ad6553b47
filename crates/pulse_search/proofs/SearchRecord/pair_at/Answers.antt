-- The code is the definition.
use mathlib.Core.Path.{refl}
use Rattle.pulse_search.specs.Pulse.{pair_at}
use Rattle.pulse_search.proofs.SearchRecord.pair_at.Goals as goal

pub returns : goal.returns
unfolding pair_at
returns c = rw c.from.ensures refl
