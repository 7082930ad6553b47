-- The place of A(n,k) is 11 n + k.
use mathlib.Core.Path.{refl, ◌∙◌}
use borrow.Author.Rules.{rules}
use native.Mathlib.Omega.{arith}
use Rattle.mpvq_offsets.proofs.Offsets.{at_place}
use Rattle.mpvq_offsets.proofs.mpvq_offset.Goals as goal

pub offset_at-requires : goal.offset_at-requires
offset_at-requires c = omega arith

pub returns : goal.returns
returns c = c.offset_at.ensures ∙ at_place c.args.n c.args.k _ (search rules) refl
