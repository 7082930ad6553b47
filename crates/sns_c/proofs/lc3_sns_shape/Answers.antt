-- The public call's own statement, and its answer as a code.
use Rattle.sns_shape.proofs.Places.{shape_place}
use Rattle.sns_c.proofs.Codes.{says, small}
use Rattle.sns_c.proofs.lc3_sns_shape.Goals as goal

pub coded-requires : goal.coded-requires
coded-requires c = small c.shape.ensures.0 (shape_place _ _ _ _ _)

pub returns : goal.returns
returns c = says c.shape.ensures c.coded.ensures
