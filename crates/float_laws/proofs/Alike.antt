-- A running sum looks at nothing but its n terms. Assumes nothing.
use mathlib.Core.Path.{◌≡◌, refl}
use Prim.Native.Nat.{ℕ, zero, suc, ◌<◌}
use native.Mathlib.Nat.{le_refl, le_trans, le-suc}
use lib.Ieee.{Float}
use Rattle.float_laws.specs.Running.{sum_to}

pub sum_alike : (d e : ℕ → Float) (n : ℕ) → ((i : ℕ) → i < n → d i ≡ e i) → sum_to d n ≡ sum_to e n
unfolding sum_to
sum_alike d e zero h = refl
sum_alike d e (suc n) h = rw (sum_alike d e n (λ i l. h i (le_trans l (le-suc n))), h n (le_refl (suc n)))
