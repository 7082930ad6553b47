-- The root of the squared length.
use Rattle.pulse_length.proofs.Pulses.length.Goals as goal

pub returns : goal.returns
returns c = rw (c.root.ensures, c.squared_length.ensures)
