-- The loop is the definition, a place at a time.
use Rattle.std.proofs.Common.{◌≡◌, ◌≤◌, ◌*◌}
use Rattle.pulse_search.specs.Pulse.{total_to}
use Rattle.pulse_search.proofs.total.Given as goal

abbrev pub invariant-loop-pulses : goal.invariant-loop-pulses
invariant-loop-pulses l = (l.k ≡ total_to l.y l.pulses-index) × (l.k ≤ 255 * l.pulses-index)
