-- The 64 bands, reduced to 60 or not, and copied out.
use mathlib.Core.Path.{◌∙◌}
use Rattle.interpolation.proofs.Laws.{narrow, wide}
use Rattle.interpolation.proofs.interpolate.Goals as goal

pub returns-then-bands-eq60 : goal.returns-then-bands-eq60
returns-then-bands-eq60 c = narrow _ _ _ _ c.if-bands-eq60.true c.spread-old.ensures (c.copy_from_slice.ensures.after ∙ c.reduce.ensures)

pub returns-else-bands-eq60 : goal.returns-else-bands-eq60
returns-else-bands-eq60 c = wide _ _ _ c.if-bands-eq60.false (c.copy_from_slice-else-bands-eq60.ensures.after ∙ c.spread-old.ensures)
