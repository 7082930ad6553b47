-- The four rows are the list.
use Rattle.stage2.proofs.Steps.{rows_are}
use Rattle.stage2.proofs.add_signs.Goals as goal

pub returns : goal.returns
returns c = rows_are _ _ c.requires _ _ _ _ c.signed_row.ensures c.signed_row-2.ensures c.signed_row-3.ensures c.signed_row-4.ensures
