-- The part of one band is multiplied, and the lines before and after it stay.
use Rattle.shaping.proofs.Laws.{part_scaled}
use Rattle.shaping.proofs.shape_band.Goals as goal

pub returns : goal.returns
returns c =
    let p = c.requires in
    part_scaled _ _ _ _ _ p.0 p.1 c.scale.ensures
