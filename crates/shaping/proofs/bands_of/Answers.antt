-- 60 bands at rate index 0 and 7.5 ms, and 64 elsewhere.
use mathlib.Core.Path.{◌≡◌, refl}
use mathlib.Core.Bool.{Bool}
use Prim.Native.Nat.{ℕ, zero, suc}
use Rattle.band_index_tables.specs.Bands.{bands_of}
use Rattle.shaping.proofs.bands_of.Goals as goal
use Rattle.shaping.proofs.bands_of.Goals.{else-rate-eq0-via-then-rate-eq0+else-not-ten_ms, else-rate-eq0-via-else-rate-eq0}

later : (rate : ℕ) (ten : Bool) → (rate ≡ 0 → ⊥) → 64 ≡ bands_of rate ten
unfolding bands_of
later zero ten h = absurd (h refl)
later (suc rate) ten h = refl

pub returns-then-not-ten_ms : goal.returns-then-not-ten_ms
unfolding bands_of
returns-then-not-ten_ms c = rw (c.if-rate-eq0.true, c.if-not-ten_ms.true)

pub returns-else-rate-eq0 : goal.returns-else-rate-eq0
unfolding bands_of
returns-else-rate-eq0 c =
    elim c.else-rate-eq0.branch [
      | else-rate-eq0-via-then-rate-eq0+else-not-ten_ms w ↦ rw (w.if-rate-eq0.true, w.if-not-ten_ms.false)
      | else-rate-eq0-via-else-rate-eq0 w ↦ later _ _ w.if-rate-eq0.false
    ]
