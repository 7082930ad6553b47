-- Set B's constants, with the size as the sum of offsets that it is.
use Rattle.shapes.proofs.Sizes.{size_regular_b}
use Rattle.shapes.proofs.PulseSet.set_b.Goals as goal

pub returns : goal.returns
returns c = rw size_regular_b
