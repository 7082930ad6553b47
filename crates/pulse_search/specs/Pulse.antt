-- One pulse, and single pulses one after another. Definitions only.
use Rattle.std.specs.Prelude.{Bool, List, ℕ, zero, suc, ◌+◌, ◌-◌, ◌*◌, get_or, set, Float}
use Rattle.std.specs.Float.{nan, binary32}
use Rattle.std.specs.Float.Ieee.{add, mul, lt}
use Rattle.float_laws.specs.Literal.{one, two, squared}
use Rattle.float_laws.specs.Scan.{scan_to}
use Rattle.float_laws.specs.Whole.{amount}
use Rattle.pulse_search.specs.declared.SearchRecord.{SearchRecord}

-- c = correlation + a[n] and e = (energy + 2·pulses[n]) + 1: the pair with one pulse more at place n
unfoldable pub pair_at : List Float → List ℕ → SearchRecord → ℕ → SearchRecord
pair_at a y r n = record {
  correlation = add binary32 r.correlation (get_or a n nan);
  energy = add binary32 (add binary32 r.energy (mul binary32 two (amount y n))) one;
}

-- Place n replaces the best if (c·c)·e_best > (c·c)_best·e.
unfoldable pub replaces : SearchRecord → SearchRecord → Bool
replaces p best = lt (mul binary32 (squared best.correlation) p.energy) (mul binary32 (squared p.correlation) best.energy)

-- One pulse: start with place 0, then scan upward, to place n. Ties keep the earlier place.
unfoldable pub best_to : List Float → List ℕ → SearchRecord → ℕ → ℕ
best_to a y r n = scan_to (λ n best. replaces (pair_at a y r n) (pair_at a y r best)) n

-- the pulses of a search, and the pair that the running search record holds
pub record Search : Type 0 where
  pub pulses : List ℕ
  pub pair : SearchRecord

abbrev pub start : List ℕ → SearchRecord → Search
start y r = record { pulses = y; pair = r }

-- One pulse over places 0 to last. The record always holds the pair belonging to the pulses placed: from here on that of the place chosen.
unfoldable pub one_pulse : List Float → ℕ → Search → Search
one_pulse a last s =
    let chosen = best_to a s.pulses s.pair last in
    record {
      pulses = set s.pulses chosen (get_or s.pulses chosen 0 + 1);
      pair = pair_at a s.pulses s.pair chosen;
    }

-- k single pulses
unfoldable pub more : List Float → ℕ → ℕ → Search → Search
more a last zero s = s
more a last (suc k) s = one_pulse a last (more a last k s)

-- f of a place's pulses, added up over the first n places
unfoldable pub sum_over : (ℕ → ℕ) → List ℕ → ℕ → ℕ
sum_over f y zero = 0
sum_over f y (suc n) = sum_over f y n + f (get_or y n 0)

-- the pulses of the first n places
abbrev pub total_to : List ℕ → ℕ → ℕ
total_to y n = sum_over (λ w. w) y n

-- the sum of their squares: the squared length
abbrev pub square_to : List ℕ → ℕ → ℕ
square_to y n = sum_over (λ w. w * w) y n

-- how many pulses are missing up to k on places 0 to last
abbrev pub missing : ℕ → ℕ → Search → ℕ
missing last k s = k - total_to s.pulses (suc last)

-- single pulses up to k over places 0 to last: the next shape goes on with the pulses and the pair of the one before
abbrev pub up_to : List Float → ℕ → ℕ → Search → Search
up_to a last k s = more a last (missing last k s) s
