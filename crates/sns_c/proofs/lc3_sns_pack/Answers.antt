-- The place fits.
use Rattle.sns_number.proofs.Places.{pack_place}
use Rattle.sns_c.proofs.Codes.{small}
use Rattle.sns_c.proofs.lc3_sns_pack.Goals as goal

pub coded-code-requires : goal.coded-code-requires
coded-code-requires c = small c.pack-answer.ensures (pack_place _ _ _)
