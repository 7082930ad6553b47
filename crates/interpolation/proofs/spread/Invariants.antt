-- The bands from 0 on hold what they should: two before the loop, four a turn, two after it.
use Prim.Native.Nat.{◌+◌, ◌*◌}
use lib.Ieee.{nan}
use Rattle.list_laws.proofs.Range.{Holds}
use Rattle.interpolation.specs.Bands.{band_of}
use Rattle.interpolation.proofs.spread.Given as goal

abbrev pub invariant-loop-n : goal.invariant-loop-n
invariant-loop-n l = Holds nan (band_of l.factors) 64 l.bands 0 (4 * l.n + 2)
