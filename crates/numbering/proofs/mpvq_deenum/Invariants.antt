-- The invariant: the part that is filled, with the vector that is to come, is the whole.
use mathlib.Core.Path.{◌≡◌}
use mathlib.Core.List.{◌++◌}
use Prim.Native.Nat.{◌-◌, ◌<◌}
use lib.ListN.{take}
use Rattle.numbering.specs.Numbering.{vector_at}
use Rattle.numbering.proofs.mpvq_deenum.Given as goal

abbrev pub invariant-loop-pos : goal.invariant-loop-pos
invariant-loop-pos l = (l.k_max_local < 11) × (vector_at l.dim l.pulses l.sign l.index ≡ take l.pos l.out ++ vector_at (l.dim - l.pos) l.k_max_local l.leading_sign l.ind)
