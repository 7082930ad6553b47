-- No distance from finite factors is NaN, so the scan's row is the first least, and the only one. Assumes nothing.
use mathlib.Core.Path.{refl}
use mathlib.Core.Bool.{not}
use mathlib.Core.List.{List}
use Prim.Native.Nat.{ℕ, ◌+◌, ◌<◌}
use native.Mathlib.Nat.{le_refl}
use native.Mathlib.Omega.{arith}
use lib.Dec.{T}
use lib.Ieee.{Float, binary32, sub, is_nan}
use Rattle.float_laws.specs.Kind.{finite}
use Rattle.float_laws.specs.Bounded.{AllFinite}
use Rattle.float_laws.proofs.NoNan.{plain_no_nan, finite_no_nan, sub_no_nan, square_plain}
use Rattle.float_laws.proofs.Size.{within_finite}
use Rattle.float_laws.proofs.Running.{sum_plain}
use Rattle.float_laws.proofs.Scan.{least_first}
use Rattle.float_laws.proofs.Least.{first_unique}
use Rattle.sns_tables.specs.Codebooks.{lfcb_rows, hfcb_rows, code_at}
use Rattle.sns_tables.proofs.Sizes.{Grid, lfcb_grid, hfcb_grid}
use Rattle.float_laws.specs.Literal.{squared}
use Rattle.stage1.specs.Stage1.{distance, half, low_distance, high_distance, low_row, high_row}
use Rattle.stage1.proofs.Whole.{inside}
use Rattle.stage1.specs.Claims.{NoDistanceNan, LowFirst, HighFirst, LowOnly, HighOnly}

module _ (rows : List (List Float)) (grid : Grid 32 8 5 1 rows) (x : List Float) (from : ℕ) (sound : (p : ℕ) → p < 8 → T (finite (half x from p))) where
  distance_no_nan : (row : ℕ) → row < 32 → T (not (is_nan (distance (half x from) (code_at rows row))))
  unfolding distance
  distance_no_nan row h =
      plain_no_nan _
      (sum_plain (λ p. squared (sub binary32 (half x from p) (code_at rows row p))) 8
      (λ p k.
      square_plain binary32 (sub binary32 (half x from p) (code_at rows row p))
      (sub_no_nan binary32 (half x from p) (code_at rows row p) (finite_no_nan (half x from p) (sound p k))
      (within_finite (code_at rows row p) 5 1 (grid.size row p h k))))
      8 (le_refl 8))

module _ (x : List Float) (f : AllFinite 16 x) where
  low_sound : (p : ℕ) → p < 8 → T (finite (half x 0 p))
  low_sound p h = f (0 + p) (omega arith)

  high_sound : (p : ℕ) → p < 8 → T (finite (half x 8 p))
  high_sound p h = f (8 + p) (omega arith)

pub no_distance_nan : NoDistanceNan
no_distance_nan x f row h = (distance_no_nan lfcb_rows lfcb_grid x 0 (low_sound x f) row h, distance_no_nan hfcb_rows hfcb_grid x 8 (high_sound x f) row h)

pub low_first : LowFirst
unfolding low_row
low_first x f = least_first (low_distance x) 31 (λ row h. (no_distance_nan x f row h).0)

pub high_first : HighFirst
unfolding high_row
high_first x f = least_first (high_distance x) 31 (λ row h. (no_distance_nan x f row h).1)

pub low_only : LowOnly
low_only x f row h = first_unique (low_distance x) 32 row (low_row x) h (low_first x f)

pub high_only : HighOnly
high_only x f row h = first_unique (high_distance x) 32 row (high_row x) h (high_first x f)

-- ---- the rows are rows, whatever the factors
pub low_inside : (x : List Float) → low_row x < 32
unfolding low_row
low_inside x = inside (low_distance x) (low_row x) refl

pub high_inside : (x : List Float) → high_row x < 32
unfolding high_row
high_inside x = inside (high_distance x) (high_row x) refl
