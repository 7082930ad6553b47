-- The place and the value of the least so far.
use Rattle.std.proofs.Common.{◌≡◌, ◌-◌, get_or}
use Rattle.std.specs.Float.{nan}
use Rattle.float_laws.specs.Scan.{least_to}
use Rattle.first_least.proofs.first_least.Given as goal

abbrev pub invariant-loop-i : goal.invariant-loop-i
invariant-loop-i g l = (l.least ≡ least_to (λ k. get_or l.values k nan) (l.i - 1)) × (l.smallest ≡ get_or l.values l.least nan)
