-- The array is the list of the gains, each a choice's.
use Prim.Native.Nat.{◌<◌}
use native.Mathlib.Omega.{arith}
use borrow.Author.Rules.{rules}
use lib.Dec.{lit<}
use lib.Ieee.{nan}
use Rattle.list_laws.proofs.FromFn.{from_fn_asks, from_fn_is}
use Rattle.candidates.specs.Scan.{choices, gain_of}
use Rattle.candidates.proofs.Candidates.{shape_room, gain_room}
use Rattle.candidates.proofs.Choices.{choices_are}
use Rattle.candidates.proofs.scanned_gains.Goals as goal

pub from_fn-requires : goal.from_fn-requires
from_fn-requires c =
    (lit< tt, from_fn_asks _ _ _ _ (λ i q h. search rules) (λ i l. let k : i < choices = omega (arith, choices_are) in (search rules, λ ls p n w r a o. (shape_room i _ a.ensures k, gain_room i _ a.ensures k))))

pub returns : goal.returns
unfolding gain_of
returns c = rw choices_are (from_fn_is _ _ _ _ _ nan c.from_fn.ensures.items (λ i y q h k. search rules))
