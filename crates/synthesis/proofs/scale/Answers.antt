-- The length of the pulses, and one division.
use Rattle.synthesis.proofs.scale.Goals as goal

pub returns : goal.returns
returns c = rw c.length.ensures
