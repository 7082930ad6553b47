-- Candidates and their distortion. Definitions only.
use Rattle.std.specs.Prelude.{List, ℤ, pos, get_or, Float}
use Rattle.std.specs.Float.{nan, binary32}
use Rattle.std.specs.Float.Ieee.{of_int, sub, mul, div}
use Rattle.float_laws.specs.Running.{sum_to}
use Rattle.float_laws.specs.Literal.{squared}
use Rattle.list_laws.specs.ListOf.{list_of}
use Rattle.pulse_length.specs.Length.{length_of}

-- A candidate is y divided by its length, place by place.
unfoldable pub candidate_of : List ℤ → List Float
candidate_of y = list_of 16 (λ n. div binary32 (of_int binary32 (get_or y n (pos 0))) (length_of y))

-- Its distortion is the sum, from 0.0, of the squares of (t minus gain times candidate) over 16 places.
unfoldable pub distortion_of : List Float → List Float → Float → Float
distortion_of t q gain = sum_to (λ n. squared (sub binary32 (get_or t n nan) (mul binary32 gain (get_or q n nan)))) 16
