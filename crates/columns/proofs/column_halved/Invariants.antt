-- The invariant: the column found is one of `width`, from `low` on, whose offset is at hand. The measure is that width.
use mathlib.Core.Path.{◌≡◌}
use Prim.Native.Nat.{◌+◌, ◌≤◌, ◌<◌}
use Rattle.mpvq_offsets.specs.Offsets.{offset_of}
use Rattle.columns.specs.Column.{column_of}
use Rattle.columns.proofs.column_halved.Given as goal

abbrev pub invariant-loop-width : goal.invariant-loop-width
invariant-loop-width l = (1 ≤ l.width) × (l.low + l.width ≤ 8) × (l.low ≤ column_of l.n 7 l.ind) × (column_of l.n 7 l.ind < l.low + l.width) × (l.offset ≡ offset_of l.n l.low) × (l.offset ≤ l.ind)

abbrev pub decreases-loop-width : goal.decreases-loop-width
decreases-loop-width l = l.width
