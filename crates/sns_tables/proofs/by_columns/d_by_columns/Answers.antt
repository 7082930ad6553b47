-- Each f32 of the table in the code is the entry of D at its row and column: computed over the whole table.
use mathlib.Core.Path.{refl}
use lib.Ieee.{of_bits}
use Rattle.float_laws.specs.Decimal.{plus, minus}
use Rattle.list_laws.specs.ListOf.{list_of}
use Rattle.sns_tables.specs.Rotation.{d_rows, d_columns}
use Rattle.sns_tables.proofs.by_columns.d_by_columns.Goals as goal

pub returns : goal.returns
unfolding d_rows d_columns list_of plus minus of_bits
returns c = refl
