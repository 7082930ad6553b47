-- What the steps hand on is stage 1's answer: the scan over the lent codebook is the scan over the codebook itself. Assumes nothing.
use mathlib.Core.Path.{◌≡◌, refl, ap, ◌∙◌}
use mathlib.Core.List.{List}
use Prim.Native.Nat.{ℕ, ◌<◌, ◌≤◌}
use native.Mathlib.Omega.{arith}
use lib.ListN.{get_or}
use lib.Ieee.{Float, nan, binary32, sub}
use Rattle.float_laws.specs.Scan.{least_to}
use Rattle.float_laws.proofs.Scan.{least_under, least_same}
use Rattle.float_laws.proofs.Alike.{sum_alike}
use Rattle.list_laws.specs.ListOf.{list_of}
use Rattle.list_laws.proofs.ListOf.{get_or_list_of, same_list_of}
use Rattle.sns_tables.specs.Codebooks.{lfcb_rows, hfcb_rows, code_at}
use Rattle.sns_tables.specs.Codes.{code_of}
use Rattle.sns_tables.specs.ByPlace.{by_place, turned_at}
use Rattle.sns_tables.proofs.ByPlace.{turned}
use Rattle.stage1.specs.declared.SnsStage1Result.{SnsStage1Result}
use Rattle.stage1.specs.Stage1.{distance, half, low_row, high_row, rows_of, codes, residual}

up_to31 : (r : ℕ) → r ≤ 31 → r < 32
up_to31 r h = omega arith

pub inside : (d : ℕ → Float) (r : ℕ) → r ≡ least_to d 31 → r < 32
inside d r e = up_to31 r (rw e (least_under d 31))

module _ (g : ℕ → Float) (rows : List (List Float)) where
  same_distance : (row : ℕ) → row < 32 → distance g (turned_at (by_place rows) row) ≡ distance g (code_at rows row)
  unfolding distance
  same_distance row h = sum_alike _ _ 8 (λ p k. rw (turned rows row p h k) refl)

  same_row : (cb : List (List Float)) (d : List Float) (r : ℕ) → cb ≡ by_place rows → d ≡ list_of 32 (λ row. distance g (turned_at cb row))
      → r ≡ least_to (λ i. get_or d i nan) 31 → r ≡ least_to (λ row. distance g (code_at rows row)) 31
  same_row cb d r e p q =
      q ∙ least_same _ _ 31 (λ i l. ap (λ (t : List Float). get_or t i nan) p ∙ get_or_list_of 32 _ nan i (up_to31 i l) ∙ rw e (same_distance i (up_to31 i l)))

module _ (x : List Float) (cb : List (List Float)) (d : List Float) (r : ℕ) where
  pub low_row_lem : cb ≡ by_place lfcb_rows → d ≡ list_of 32 (λ row. distance (half x 0) (turned_at cb row)) → r ≡ least_to (λ i. get_or d i nan) 31 → r ≡ low_row x
  unfolding low_row
  low_row_lem = same_row (half x 0) lfcb_rows cb d r

  pub high_row_lem : cb ≡ by_place hfcb_rows → d ≡ list_of 32 (λ row. distance (half x 8) (turned_at cb row)) → r ≡ least_to (λ i. get_or d i nan) 31 → r ≡ high_row x
  unfolding high_row
  high_row_lem = same_row (half x 8) hfcb_rows cb d r

module _ (x : List Float) (lf hf : ℕ) (a : lf ≡ low_row x) (b : hf ≡ high_row x) where
  pub both_rows : ◌≡◌ {A = SnsStage1Result} (record { ind_lf = lf; ind_hf = hf }) (rows_of x)
  both_rows = rw (a, b) refl

  module _ (s : List Float) (c : s ≡ list_of 16 (code_of lf hf)) where
    pub both_codes : s ≡ codes x
    both_codes = rw (← a, ← b) c

    pub less_codes : (r : List Float) → r ≡ list_of 16 (λ n. sub binary32 (get_or x n nan) (get_or s n nan)) → r ≡ residual x
    less_codes r d = rw (← a, ← b) (d ∙ same_list_of 16 _ _ (λ n h. rw (c, get_or_list_of 16 (code_of lf hf) nan n h) refl))
