-- A lent codebook's entry is the code at one of the sixteen places. Assumes nothing.
use mathlib.Core.Path.{◌≡◌, ◌∙◌}
use mathlib.Core.List.{List}
use Prim.Native.Nat.{ℕ, ◌-◌, ◌<◌, ◌≤◌}
use native.Mathlib.Omega.{arith}
use lib.Ieee.{Float}
use Rattle.sns_tables.specs.Codebooks.{lfcb_rows, hfcb_rows}
use Rattle.sns_tables.specs.Codes.{code_of}
use Rattle.sns_tables.specs.ByPlace.{by_place, turned_at}
use Rattle.sns_tables.proofs.Codes.{code_low, code_high}
use Rattle.sns_tables.proofs.ByPlace.{turned}

module _ (cb : List (List Float)) (lf hf n : ℕ) where
  pub low_code : cb ≡ by_place lfcb_rows → lf < 32 → n < 8 → turned_at cb lf n ≡ code_of lf hf n
  low_code e h k = rw e (turned lfcb_rows lf n h k) ∙ code_low lf hf n k

  pub high_code : cb ≡ by_place hfcb_rows → hf < 32 → 8 ≤ n → n < 16 → turned_at cb hf (n - 8) ≡ code_of lf hf n
  high_code e h k l = rw e (turned hfcb_rows hf (n - 8) h (omega arith)) ∙ code_high lf hf n k
