-- The loop is the count, a place at a time.
use Rattle.std.proofs.Common.{◌≡◌, ◌≤◌}
use Rattle.pulse_guess.specs.Lanes.{unbeaten_by, count_to}
use Rattle.pulse_guess.proofs.unbeaten.Given as goal

abbrev pub invariant-loop-n : goal.invariant-loop-n
invariant-loop-n l = (l.count ≡ count_to (unbeaten_by l.c l.e l.g) l.n) × (l.count ≤ l.n)
