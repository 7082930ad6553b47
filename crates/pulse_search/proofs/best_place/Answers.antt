-- The guess where it beats every other place, and otherwise the scan.
use Rattle.pulse_search.proofs.Takes.{guess_is}
use Rattle.pulse_search.proofs.best_place.Goals as goal

pub returns-then-unbeaten-eq1 : goal.returns-then-unbeaten-eq1
returns-then-unbeaten-eq1 c = guess_is _ _ _ _ c.requires.0 _ _ _ _ _ c.requires.1 c.squares-c.ensures c.energies-e.ensures c.if-g-last.true c.unbeaten.ensures c.if-unbeaten-eq1.true
