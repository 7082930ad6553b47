-- Nothing stands in where the projection is dropped.
use mathlib.Core.Path.{◌∙◌}
use Rattle.projection.proofs.Projection.{begun_is}
use Rattle.projection.proofs.project.Goals as goal

pub returns : goal.returns
returns c = c.unwrap_or.ensures ∙ rw (c.projected_pulses.ensures, c.nothing.ensures) (begun_is _)
