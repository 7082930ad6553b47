-- After each turn the pulses and the pair are those of so many single pulses.
use Rattle.std.proofs.Common.{◌≡◌, ◌-◌}
use Rattle.pulse_search.specs.Pulse.{start, more}
use Rattle.pulse_search.proofs.add_unit_pulse.Given as goal

abbrev pub invariant-loop : goal.invariant-loop
invariant-loop l = start l.y l.pair ≡ more l.abs_x l.last (l.counter - l.k) (start l.initial.y l.initial.pair)
