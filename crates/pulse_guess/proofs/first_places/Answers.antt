-- Each lane by itself.
use Rattle.std.proofs.Common.{rules}
use lib.Ieee.{nan}
use Rattle.list_laws.proofs.FromFn.{from_fn_is}
use Rattle.pulse_guess.specs.Lanes.{first_of}
use Rattle.pulse_guess.proofs.first_places.Goals as goal

pub returns : goal.returns
unfolding first_of
returns c = from_fn_is _ _ _ 16 _ nan c.from_fn.ensures.items (λ i y q h k. search rules)
