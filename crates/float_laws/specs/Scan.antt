-- One of 0, 1, .. as a scan upward finds it, and the first strictly smallest of floats d 0, d 1, .. Definitions only.
use Rattle.std.specs.Prelude.{Bool, cond, ℕ, zero, suc, Float}
use Rattle.std.specs.Float.Ieee.{lt}

-- of 0 to n: start with 0, then scan upward; one takes the place of the best so far where the rule says so
unfoldable pub scan_to : (ℕ → ℕ → Bool) → ℕ → ℕ
scan_to replaces zero = 0
scan_to replaces (suc n) = cond (replaces (suc n) (scan_to replaces n)) (suc n) (scan_to replaces n)

-- of d 0 to d n: one that is not strictly smaller does not replace the best
unfoldable pub least_to : (ℕ → Float) → ℕ → ℕ
least_to d n = scan_to (λ n best. lt (d n) (d best)) n
