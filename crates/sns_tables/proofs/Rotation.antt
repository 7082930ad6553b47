-- D by columns holds D's entries. Assumes nothing.
use mathlib.Core.Path.{◌≡◌, ap, ◌∙◌}
use mathlib.Core.List.{List, []}
use Prim.Native.Nat.{ℕ, ◌<◌}
use lib.ListN.{get_or}
use lib.Ieee.{Float, nan}
use Rattle.list_laws.specs.ListOf.{list_of}
use Rattle.list_laws.proofs.ListOf.{get_or_list_of}
use Rattle.sns_tables.specs.Rotation.{d_at, d_columns}

pub column_entry : (row column : ℕ) → row < 16 → column < 16 → get_or (get_or d_columns column []) row nan ≡ d_at row column
unfolding d_columns
column_entry row column h k =
    ap (λ (l : List Float). get_or l row nan) (get_or_list_of 16 (λ c. list_of 16 (λ r. d_at r c)) [] column k) ∙ get_or_list_of 16 (λ r. d_at r column) nan row h
