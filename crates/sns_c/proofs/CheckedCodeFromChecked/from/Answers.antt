-- Where there is no value, 0.0 stands: its bits are computed.
use mathlib.Core.Path.{sym, ap, ◌∙◌}
use lib.Ieee.{of_bits}
use Rattle.float_laws.specs.Decimal.{plus}
use Rattle.sns_check.specs.CheckFactor.{number_of, value_of}
use Rattle.sns_c.proofs.CheckedCodeFromChecked.from.Goals as goal

pub returns-in-NotFinite : goal.returns-in-NotFinite
unfolding plus of_bits
returns-in-NotFinite c = let e = sym c.in-NotFinite.is in record { number = c.number-in-NotFinite.ensures ∙ ap number_of e; value = ap value_of e }
