-- The code is the definition.
use mathlib.Core.Path.{refl}
use Rattle.pulse_search.specs.Pulse.{replaces}
use Rattle.pulse_search.proofs.SearchRecord.replaces.Goals as goal

pub returns : goal.returns
unfolding replaces
returns c = refl
