-- Ten places are stored over zeros.
use mathlib.Core.Path.{◌≡◌}
use lib.ListN.{get_or}
use Rattle.list_laws.proofs.Fill.{over}
use Rattle.shape_search.proofs.low_places.Given as goal

abbrev pub invariant-loop-n : goal.invariant-loop-n
invariant-loop-n l = l.low ≡ over (λ n. get_or l.y n 0) l.n l.initial.low
