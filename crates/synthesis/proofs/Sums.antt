-- The sum over columns, as the shared column sum gives it. Assumes nothing.
use mathlib.Core.Path.{◌≡◌}
use mathlib.Core.List.{List}
use Prim.Native.Nat.{ℕ, ◌<◌}
use lib.IntN.{ℤ}
use lib.Ieee.{Float}
use Rattle.sns_tables.specs.Rotation.{d_columns}
use Rattle.rotation.specs.Column.{column_at}
use Rattle.rotation.proofs.Columns.{column_of_columns}
use Rattle.pulse_length.specs.Length.{floats_of}
use Rattle.synthesis.specs.Synthesis.{columns_to}

-- the sum over columns, where x holds the pulses as floats and d has D by columns
pub columns_are : (y : List ℤ) (d : List (List Float)) (x : List Float) (n : ℕ) → d ≡ d_columns → x ≡ floats_of y → n < 16 → column_at d x n ≡ columns_to (floats_of y) n 16
unfolding columns_to
columns_are y d x n e p h = rw p (column_of_columns d (floats_of y) n e h)
