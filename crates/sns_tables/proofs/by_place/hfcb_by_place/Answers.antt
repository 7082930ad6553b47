-- Each f32 of the table in the code is the codebook's decimal at its row and place: computed over the whole table.
use mathlib.Core.Path.{refl}
use lib.Ieee.{of_bits}
use Rattle.float_laws.specs.Decimal.{plus, minus}
use Rattle.list_laws.specs.ListOf.{list_of}
use Rattle.sns_tables.specs.Codebooks.{hfcb_rows}
use Rattle.sns_tables.proofs.by_place.hfcb_by_place.Goals as goal

pub returns : goal.returns
unfolding list_of hfcb_rows plus minus of_bits
returns c = refl
