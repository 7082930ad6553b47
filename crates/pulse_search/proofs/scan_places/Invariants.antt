-- The scan upward, a place at a time: the best so far and its pair.
use Rattle.std.proofs.Common.{◌≡◌, ◌-◌}
use Rattle.pulse_search.specs.Pulse.{pair_at, best_to}
use Rattle.pulse_search.proofs.scan_places.Given as goal

abbrev pub invariant-loop-n : goal.invariant-loop-n
invariant-loop-n l = (l.n_best ≡ best_to l.abs_x l.y l.r (l.n - 1)) × (l.best ≡ pair_at l.abs_x l.y l.r l.n_best)
