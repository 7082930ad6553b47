-- The array is the list of the signed pulses.
use borrow.Author.Rules.{rules}
use lib.IntN.{pos}
use Rattle.list_laws.proofs.FromFn.{from_fn_is}
use Rattle.stage2.specs.Stage2.{signed_row}
use Rattle.stage2.proofs.signed_row.Goals as goal

pub returns : goal.returns
unfolding signed_row
returns c = from_fn_is _ _ _ 16 _ (pos 0) c.from_fn.ensures.items (λ i y q h k. search rules)
