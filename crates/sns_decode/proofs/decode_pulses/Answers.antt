-- What is left once nothing is refused: the fields are accepted, and sixteen pulses are filled.
use Rattle.std.proofs.Common.{length, sym, ◌∙◌, arith}
use Rattle.sns_decode.proofs.Claims.{decode_takes}
use Rattle.sns_decode.proofs.decode_pulses.Goals as goal

pub pulses-requires : goal.pulses-requires
pulses-requires c = ((decode_takes _ _).1 (sym c.refusal.ensures ∙ c.in_ok-refusal.was)).fields.tables.shape_below

pub copy_from_slice-requires : goal.copy_from_slice-requires
copy_from_slice-requires c =
    let sixteen = ((decode_takes c.args.fields (length c.args.pulses.now)).1 (sym c.refusal.ensures ∙ c.in_ok-refusal.was)).long in
    omega arith
