-- A pulse of at most 10 is a whole number that f32 holds.
use Rattle.pulse_length.proofs.Squares.{plain, in_float_lem}
use Rattle.pulse_length.proofs.pulse.Goals as goal

pub int_to_float-result : goal.int_to_float-result
int_to_float-result c = rw (plain c.args.y c.requires) (in_float_lem c.args.y c.requires)
