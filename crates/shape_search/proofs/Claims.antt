-- The pulses of every shape are counted. Assumes nothing.
use Prim.Native.Nat.{ℕ, zero, suc, ◌<◌}
use native.Mathlib.Omega.{arith}
use Rattle.list_laws.specs.ListOf.{list_of}
use Rattle.shape_search.specs.Shape.{shape_pulses}
use Rattle.shape_search.specs.Claims.{Totals, LowTotals}
use Rattle.shape_search.proofs.Facts.{zero_total, one_total, two_total, three_total, zero_low, one_low}

pub totals : Totals
unfolding list_of shape_pulses
totals a = rw (zero_total, one_total, two_total, three_total)

pub low_totals : LowTotals
unfolding shape_pulses
low_totals a zero h = zero_low a
low_totals a (suc zero) h = one_low a
low_totals a (suc (suc s)) h = absurd (none s h)
  where
    none : (s : ℕ) → suc (suc s) < 2 → ⊥
    none s h = omega arith
