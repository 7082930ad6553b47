-- What is proved of the pulse offsets. The proof is in proofs/Offsets.antt.
use Rattle.mpvq_offsets.specs.Offsets.{offset_table, Obeys}

-- the offset table obeys its recurrence at every entry (Offsets)
abbrev pub OffsetsObey : Type 0
OffsetsObey = Obeys offset_table
