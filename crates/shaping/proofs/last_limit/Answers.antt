-- The limit at the band count, in the table as it is handed out.
use native.Mathlib.Omega.{arith}
use native.Mathlib.Nat.{le_refl}
use Rattle.shaping.proofs.Laws.{bands_most, limit_at}
use Rattle.shaping.proofs.last_limit.Goals as goal

pub bounds-limits-bands_of : goal.bounds-limits-bands_of
bounds-limits-bands_of c = omega (arith, c.bands_of.ensures, bands_most c.args.rate c.args.ten_ms c.requires)

pub returns : goal.returns
returns c = rw c.bands_of.ensures (limit_at c.args.rate c.args.ten_ms c.requires _ _ c.band_limits-limits.ensures (le_refl _))
