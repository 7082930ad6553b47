-- The array is the list of the distortions, each a choice's.
use Prim.Native.Nat.{◌<◌}
use native.Mathlib.Omega.{arith}
use borrow.Author.Rules.{rules}
use lib.Dec.{lit<}
use lib.Ieee.{nan}
use Rattle.list_laws.proofs.FromFn.{from_fn_asks, from_fn_is}
use Rattle.candidates.specs.Scan.{choices, distortion_at}
use Rattle.candidates.proofs.Candidates.{shape_room, distortion_is}
use Rattle.candidates.proofs.Choices.{choices_are}
use Rattle.candidates.proofs.distortions.Goals as goal

pub from_fn-requires : goal.from_fn-requires
from_fn-requires c = (
  lit< tt,
  from_fn_asks _ _ _ _ (λ i q h. search rules)
      (λ i l.
      let k : i < choices = omega (arith, choices_are) in (
        search rules,
        λ ls p n w r a. let e = shape_room i a.result a.ensures k in search rules,
        λ ls p n w r a. let e = shape_room i a.result a.ensures k in search rules,
        λ ls p n w r a. search rules,
        λ ls p n w r a. search rules,
      )),
)

pub returns : goal.returns
unfolding distortion_at
returns c =
    rw choices_are
    (from_fn_is _ _ _ _ _ nan c.from_fn.ensures.items
    (λ i y q h k. (search rules, let l : i < choices = omega (arith, choices_are) in search (rules, distortion_is, c.requires))))
