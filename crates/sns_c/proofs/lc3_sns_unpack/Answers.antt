-- The public call's own statement, and its answer as a code.
use Rattle.sns_number.proofs.Places.{unpack_place}
use Rattle.sns_c.proofs.Codes.{says, small}
use Rattle.sns_c.proofs.lc3_sns_unpack.Goals as goal

pub coded-requires : goal.coded-requires
coded-requires c = small c.unpack.ensures.0 (unpack_place _ _ _ _ _)

pub returns : goal.returns
returns c = says c.unpack.ensures c.coded.ensures
