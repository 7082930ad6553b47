-- The codes, the gain and the scale are as the definition has them.
use mathlib.Core.Path.{◌∙◌}
use Rattle.pulse_length.proofs.Squares.{shaped_sixteen}
use Rattle.synthesis.proofs.factors.Goals as goal

pub adj_gain-requires : goal.adj_gain-requires
adj_gain-requires c = let t = c.requires.tables in (t.shape_below, t.gain_below)

pub invariant_of-y : goal.invariant_of-y
invariant_of-y c = record { sixteen = shaped_sixteen _ _ c.requires.shaped }

pub returns : goal.returns
returns c = c.from_codes.ensures ∙ rw (c.scale-g.ensures, c.adj_gain.ensures, c.codes-code.ensures)
