-- What the quick way to the best place computes and compares, before it hands over to the scan. Definitions only.
use Rattle.std.specs.Prelude.{Bool, not, cond, List, ℕ, zero, suc, ◌+◌, leb, get_or, Float}
use Rattle.std.specs.Float.{nan, binary32}
use Rattle.std.specs.Float.Ieee.{add, mul, lt}
use Rattle.list_laws.specs.ListOf.{list_of}
use Rattle.float_laws.specs.Literal.{nought, one, two, squared}
use Rattle.float_laws.specs.Whole.{amount}

-- the absolute value of each place up to last, and zero past it
unfoldable pub first_of : List Float → ℕ → List Float
first_of a last = list_of 16 (λ n. cond (leb n last) (get_or a n nan) nought)

-- c·c of each place
unfoldable pub squared_lanes : List Float → Float → List Float
squared_lanes a correlation = list_of 16 (λ n. squared (add binary32 correlation (get_or a n nan)))

-- e of each place
unfoldable pub energies_of : List ℕ → Float → List Float
energies_of y energy = list_of 16 (λ n. add binary32 (add binary32 energy (mul binary32 two (amount y n))) one)

-- place g does not strictly beat place n
unfoldable pub unbeaten_by : List Float → List Float → ℕ → ℕ → Bool
unbeaten_by c e g n = not (lt (mul binary32 (get_or c n nan) (get_or e g nan)) (mul binary32 (get_or c g nan) (get_or e n nan)))

-- how many of the first n numbers pass a test
unfoldable pub count_to : (ℕ → Bool) → ℕ → ℕ
count_to f zero = 0
count_to f (suc n) = count_to f n + cond (f n) 1 0
