-- The places up to the one that is next hold zeros.
use Rattle.std.proofs.Common.{◌≡◌, pos, take, replicate}
use Rattle.numbering.proofs.at_one_place.Given as goal

abbrev pub invariant-loop-val : goal.invariant-loop-val
invariant-loop-val l = take l.val-index l.rest ≡ replicate l.val-index (pos 0)
