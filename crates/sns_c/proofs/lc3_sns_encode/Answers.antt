-- The place fits.
use Rattle.sns_encode.proofs.Places.{encode_place}
use Rattle.sns_c.proofs.Codes.{small}
use Rattle.sns_c.proofs.lc3_sns_encode.Goals as goal

pub coded-code-requires : goal.coded-code-requires
coded-code-requires c = small c.encode-answer.ensures.0 (encode_place _ _ _)
