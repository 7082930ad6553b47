-- The lines up to the one that is next are multiplied, and the rest are as they were.
use lib.ListN.{get_or}
use lib.Ieee.{nan, binary32, mul}
use Rattle.list_laws.proofs.InPlace.{Passed}
use Rattle.shaping.proofs.scale.Given as goal

abbrev pub invariant-loop-line : goal.invariant-loop-line
invariant-loop-line l = Passed nan (λ k. mul binary32 (get_or l.initial.line-items k nan) l.gain) l.initial.line-items l.line-items l.line-index
