-- The sum, and the squares that are left, are the squared length.
use Rattle.std.proofs.Common.{◌≡◌, ◌+◌, drop}
use Rattle.pulse_length.specs.Length.{squared_length}
use Rattle.pulse_length.proofs.Pulses.squared_length.Given as goal

abbrev pub invariant-loop-y : goal.invariant-loop-y
invariant-loop-y l = l.sum + squared_length (drop l.y-index l.self.y) ≡ squared_length l.self.y
