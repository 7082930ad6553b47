-- A codebook of 32 rows of 8, turned: eight lists of 32, one a place. Definitions only.
use Rattle.std.specs.Prelude.{ℕ, List, [], get_or, Float}
use Rattle.std.specs.Float.{nan}
use Rattle.list_laws.specs.ListOf.{list_of}
use Rattle.sns_tables.specs.Codebooks.{code_at}

-- list p holds the codes at place p, row after row
abbrev pub by_place : List (List Float) → List (List Float)
by_place rows = list_of 8 (λ place. list_of 32 (λ row. code_at rows row place))

-- the code at a row and a place, read from the turned codebook
abbrev pub turned_at : List (List Float) → ℕ → ℕ → Float
turned_at places row place = get_or (get_or places place []) row nan
