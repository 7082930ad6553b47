-- The shape is one of four, and the numbers are those among the fields.
use Rattle.decoder.proofs.pulses.Goals as goal

pub returns : goal.returns
returns c = rw c.from.ensures at c.pulses.ensures
