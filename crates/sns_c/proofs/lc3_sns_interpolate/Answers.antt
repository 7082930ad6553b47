-- The public call's own statement, and its answer as a code.
use Rattle.sns_interpolate.proofs.Places.{interpolate_place}
use Rattle.sns_c.proofs.Codes.{says, small}
use Rattle.sns_c.proofs.lc3_sns_interpolate.Goals as goal

pub coded-requires : goal.coded-requires
coded-requires c = small c.interpolate.ensures.0 (interpolate_place _ _ _)

pub returns : goal.returns
returns c = says c.interpolate.ensures c.coded.ensures
