-- The code is the definition.
use mathlib.Core.Path.{refl}
use Rattle.list_laws.specs.ListOf.{list_of}
use Rattle.pulse_search.specs.Pulse.{sum_over}
use Rattle.projection.proofs.nothing.Goals as goal

pub returns : goal.returns
unfolding list_of sum_over
returns c = refl
