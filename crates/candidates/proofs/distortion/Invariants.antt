-- The loop is the running sum of the definition.
use mathlib.Core.Path.{◌≡◌}
use lib.ListN.{length, get_or}
use lib.Ieee.{nan, binary32, sub, mul}
use Rattle.float_laws.specs.Running.{sum_to}
use Rattle.float_laws.specs.Literal.{squared}
use Rattle.candidates.proofs.distortion.Given as goal

abbrev pub invariant-loop-x : goal.invariant-loop-x
invariant-loop-x l = l.d_mse ≡ sum_to (λ n. squared (sub binary32 (get_or l.t n nan) (mul binary32 l.gain (get_or l.xq n nan)))) (length l.yielded)
