-- The turned codebook holds the codebook's own codes. Assumes nothing.
use mathlib.Core.Path.{◌≡◌, ap, ◌∙◌}
use mathlib.Core.List.{List, []}
use Prim.Native.Nat.{ℕ, ◌<◌}
use lib.ListN.{get_or}
use lib.Ieee.{Float, nan}
use Rattle.list_laws.specs.ListOf.{list_of}
use Rattle.list_laws.proofs.ListOf.{get_or_list_of}
use Rattle.sns_tables.specs.Codebooks.{code_at}
use Rattle.sns_tables.specs.ByPlace.{by_place, turned_at}

pub turned : (rows : List (List Float)) (row place : ℕ) → row < 32 → place < 8 → turned_at (by_place rows) row place ≡ code_at rows row place
turned rows row place h k =
    ap (λ (l : List Float). get_or l row nan) (get_or_list_of 8 (λ p. list_of 32 (λ r. code_at rows r p)) [] place k)
    ∙ get_or_list_of 32 (λ r. code_at rows r place) nan row h
