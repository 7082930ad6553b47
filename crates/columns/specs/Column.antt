-- The column that an index falls into. Definitions only.
use Rattle.std.specs.Prelude.{cond, ℕ, zero, suc, leb}
use Rattle.mpvq_offsets.specs.Offsets.{offset_of}

-- The pulses left after a place are the greatest column, from k down, whose offset is at most the index.
unfoldable pub column_of : ℕ → ℕ → ℕ → ℕ
column_of n zero index = 0
column_of n (suc k) index = cond (leb (offset_of n (suc k)) index) (suc k) (column_of n k index)
