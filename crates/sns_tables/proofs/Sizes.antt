-- How large the entries of the tables are, and how many there are: one computed test a table, and what it says of each entry. Assumes nothing.
use mathlib.Core.Path.{◌≡◌, refl}
use mathlib.Core.Bool.{Bool}
use mathlib.Core.List.{List, [], ◌∷◌, map}
use Prim.Native.Nat.{ℕ, ◌<◌}
use lib.Dec.{T, eqb, eqb→eq}
use lib.ListN.{length, get_or}
use lib.Ieee.{Float, nan}
use Rattle.float_laws.specs.Decimal.{plus, minus}
use Rattle.float_laws.specs.Size.{Within, withinb}
use Rattle.float_laws.proofs.Size.{within_test}
use Rattle.list_laws.specs.Every.{both, every, grid_from}
use Rattle.list_laws.proofs.Every.{both_left, both_right, at, at_grid}
use Rattle.sns_tables.specs.Codebooks.{lfcb_rows, hfcb_rows}
use Rattle.sns_tables.specs.Rotation.{d_rows}
use Rattle.sns_tables.specs.Gains.{over4096, gain_rows, gains_of, gain_at}
use Rattle.sns_tables.specs.Claims.{LowCodesSmall, HighCodesSmall, RotationSmall, GainsSmall}

-- ---- a grid of h rows of w floats, each at most a / c in size
sized_grid : ℕ → ℕ → ℕ → ℕ → List (List Float) → Bool
sized_grid h w a c rs = both (eqb (length rs) h) (both (every (λ r. eqb (length r) w) rs) (grid_from w (λ n k. withinb a c) 0 rs))

pub record Grid (h w a c : ℕ) (rs : List (List Float)) : Type 0 where
  pub rows : length rs ≡ h
  pub width : (n : ℕ) → n < h → length (get_or rs n []) ≡ w
  pub size : (n k : ℕ) → n < h → k < w → Within (get_or (get_or rs n []) k nan) a c

grid : (h w a c : ℕ) (rs : List (List Float)) → T (sized_grid h w a c rs) → Grid h w a c rs
unfolding sized_grid
grid h w a c rs t =
    let rest = both_right (eqb (length rs) h) (both (every (λ r. eqb (length r) w) rs) (grid_from w (λ n k. withinb a c) 0 rs)) t in
    let l : length rs ≡ h = eqb→eq (length rs) h (both_left (eqb (length rs) h) (both (every (λ r. eqb (length r) w) rs) (grid_from w (λ n k. withinb a c) 0 rs)) t) in
    let widths = both_left (every (λ r. eqb (length r) w) rs) (grid_from w (λ n k. withinb a c) 0 rs) rest in
    let sizes = both_right (every (λ r. eqb (length r) w) rs) (grid_from w (λ n k. withinb a c) 0 rs) rest in
    record {
      rows = l;
      width = λ n q. eqb→eq (length (get_or rs n [])) w (at [] (λ r. eqb (length r) w) rs widths n (rw l q));
      size = λ n k q s. within_test a c (get_or (get_or rs n []) k nan) (at_grid nan w (λ n k. withinb a c) rs sizes n k (rw l q) s);
    }

-- ---- the codes are at most 5 in size, D's entries at most 361/1024
pub lfcb_grid : Grid 32 8 5 1 lfcb_rows
unfolding sized_grid lfcb_rows plus minus
lfcb_grid = grid 32 8 5 1 lfcb_rows tt

pub hfcb_grid : Grid 32 8 5 1 hfcb_rows
unfolding sized_grid hfcb_rows plus minus
hfcb_grid = grid 32 8 5 1 hfcb_rows tt

pub d_grid : Grid 16 16 361 1024 d_rows
unfolding sized_grid d_rows plus minus
d_grid = grid 16 16 361 1024 d_rows tt

pub low_code_within : LowCodesSmall
low_code_within = lfcb_grid.size

pub high_code_within : HighCodesSmall
high_code_within = hfcb_grid.size

pub d_within : RotationSmall
d_within = d_grid.size

-- ---- the gains are at most 21014/4096, and 2, 4, 4 and 8 in number
small_gains : List Float → Bool
small_gains r = every (withinb 21014 4096) r

gains_small : T (every small_gains gain_rows)
unfolding small_gains gain_rows over4096
gains_small = tt

pub shapes : length gain_rows ≡ 4
unfolding gain_rows
shapes = refl

pub gain_within : GainsSmall
unfolding small_gains
gain_within shape gain h l =
    within_test 21014 4096 (gain_at shape gain)
    (at nan (withinb 21014 4096) (get_or gain_rows shape []) (at [] small_gains gain_rows gains_small shape (rw shapes h)) gain l)

pub gain_counts : map gains_of (0 ∷ 1 ∷ 2 ∷ 3 ∷ []) ≡ 2 ∷ 4 ∷ 4 ∷ 8 ∷ []
unfolding gain_rows
gain_counts = refl
