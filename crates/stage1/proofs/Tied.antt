-- Two rows at the same least distance, computed from the definitions. Assumes nothing.
use mathlib.Core.Path.{◌≡◌, refl, sym, ◌∙◌}
use mathlib.Core.Bool.{false}
use lib.IntN.{negsuc}
use lib.Ieee.{fin, of_bits, add, sub, mul, lt}
use Rattle.float_laws.specs.Decimal.{plus, minus}
use Rattle.float_laws.specs.Running.{sum_to}
use Rattle.float_laws.specs.Scan.{scan_to, least_to}
use Rattle.sns_tables.specs.Codebooks.{hfcb_rows}
use Rattle.stage1.specs.Stage1.{distance, high_distance, high_row}
use Rattle.stage1.specs.Claims.{tied, Tie}

-- the distance of row 10, and of row 29
at_10 : high_distance tied 10 ≡ fin false 4330427 (negsuc 8)
unfolding tied distance sum_to hfcb_rows plus minus of_bits add sub mul
at_10 = refl

at_29 : high_distance tied 29 ≡ fin false 4330427 (negsuc 8)
unfolding tied distance sum_to hfcb_rows plus minus of_bits add sub mul
at_29 = refl

first : high_row tied ≡ 10
unfolding tied distance high_row sum_to least_to hfcb_rows plus minus of_bits add sub mul lt scan_to
first = refl

pub tie : Tie
tie = (at_10 ∙ sym at_29, first)
