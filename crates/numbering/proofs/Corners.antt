-- Every corner of the table holds of the written rules, by computation. Assumes nothing.
use mathlib.Core.Path.{refl}
use Rattle.mpvq_offsets.specs.Offsets.{offset_of}
use Rattle.numbering.specs.Numbering.{signed, next_sign, next_index, vector_at}
use Rattle.columns.specs.Column.{column_of}
use Rattle.numbering.specs.Corners.{answer, no_pulses, corners, Corners}

pub hold : Corners
unfolding offset_of signed column_of next_sign next_index vector_at answer no_pulses corners
hold = refl
