-- The four candidates are the list.
use lib.Dec.{lit<}
use Rattle.stage2.proofs.Steps.{four_candidates}
use Rattle.stage2.proofs.normalize_candidates.Goals as goal

pub candidate-requires : goal.candidate-requires
candidate-requires c = c.requires 0 (lit< tt)

pub candidate-requires-2 : goal.candidate-requires-2
candidate-requires-2 c = c.requires 1 (lit< tt)

pub candidate-requires-3 : goal.candidate-requires-3
candidate-requires-3 c = c.requires 2 (lit< tt)

pub candidate-requires-4 : goal.candidate-requires-4
candidate-requires-4 c = c.requires 3 (lit< tt)

pub returns : goal.returns
returns c = four_candidates c.args.v.now _ _ _ _ c.candidate.ensures c.candidate-2.ensures c.candidate-3.ensures c.candidate-4.ensures
