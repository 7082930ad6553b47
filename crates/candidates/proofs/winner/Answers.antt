-- The least of the list is the least of the distortions.
use mathlib.Core.Path.{sym}
use Rattle.candidates.proofs.Candidates.{winner_is}
use Rattle.candidates.proofs.Choices.{choices_are}
use Rattle.candidates.proofs.winner.Goals as goal

pub returns : goal.returns
returns c = winner_is _ _ _ _ _ (sym choices_are) c.distortions.ensures c.first_least.ensures
