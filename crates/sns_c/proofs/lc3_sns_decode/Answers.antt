-- The public call's own statement, and its answer as a code.
use Rattle.sns_decode.proofs.Places.{decode_place}
use Rattle.sns_c.proofs.Codes.{says, small}
use Rattle.sns_c.proofs.lc3_sns_decode.Goals as goal

pub coded-requires : goal.coded-requires
coded-requires c = small c.decode.ensures.0 (decode_place _ _)

pub returns : goal.returns
returns c = says c.decode.ensures c.coded.ensures
