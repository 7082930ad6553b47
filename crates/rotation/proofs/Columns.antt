-- The column sums of D, by rows and by columns. Assumes nothing.
use Rattle.std.proofs.Common.{◌≡◌, ℕ, ◌<◌, List, get_or, refl}
use lib.Ieee.{Float, nan, binary32, mul}
use Rattle.float_laws.specs.Running.{sum_to}
use Rattle.float_laws.proofs.Alike.{sum_alike}
use Rattle.sns_tables.specs.Rotation.{d_rows, d_columns, d_at}
use Rattle.sns_tables.proofs.Rotation.{column_entry}
use Rattle.rotation.specs.Column.{column_at}

module _ (d : List (List Float)) (x : List Float) (n : ℕ) where
  -- column n of D
  pub column_of_rows : d ≡ d_rows → column_at d x n ≡ sum_to (λ row. mul binary32 (get_or x row nan) (d_at row n)) 16
  unfolding column_at
  column_of_rows e = rw e refl

  -- row n of D, where d has D by columns
  pub column_of_columns : d ≡ d_columns → n < 16 → column_at d x n ≡ sum_to (λ column. mul binary32 (get_or x column nan) (d_at n column)) 16
  unfolding column_at
  column_of_columns e h = rw e (sum_alike _ _ 16 (λ column l. rw (column_entry n column h l) refl))
