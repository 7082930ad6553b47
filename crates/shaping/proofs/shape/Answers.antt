-- After b bands the lines are those that the first b bands leave.
use mathlib.Core.Path.{◌≡◌, ap, ◌∙◌}
use Prim.Native.Nat.{ℕ, ◌+◌, ◌<◌, ◌≤◌}
use native.Mathlib.Omega.{arith}
use native.Mathlib.Nat.{le_refl, le_trans, le_of_lt}
use lib.ListN.{length}
use Rattle.list_laws.proofs.ListOf.{length_list_of}
use Rattle.band_index_tables.specs.Bands.{bands_of}
use Rattle.shaping.proofs.Laws.{bands_most, limit_at, rises_to, band_more, band_none}
use Rattle.shaping.proofs.shape.Goals as goal

suc_le : {b n : ℕ} → b < n → b + 1 ≤ n
suc_le h = omega arith

pub loop-b-init : goal.loop-b-init
loop-b-init c = band_none c.args.rate c.args.ten_ms c.requires.rate_below _ _

-- a band that is left
pub bounds-limits-b : goal.bounds-limits-b
bounds-limits-b c = omega (arith, bands_most c.args.rate c.args.ten_ms c.requires.rate_below)

pub bounds-limits-b-in-loop-b : goal.bounds-limits-b-in-loop-b
bounds-limits-b-in-loop-b c = omega (arith, bands_most c.args.rate c.args.ten_ms c.requires.rate_below)

-- its two limits
pub shape_band-requires : goal.shape_band-requires
shape_band-requires c =
    let l = c.loop-b in
    let left : l.b < bands_of c.args.rate c.args.ten_ms = omega arith in
    let first = limit_at c.args.rate c.args.ten_ms c.requires.rate_below _ _ c.band_limits-limits.ensures (le_of_lt left) in
    let end = limit_at c.args.rate c.args.ten_ms c.requires.rate_below _ _ c.band_limits-limits.ensures (suc_le left) in
    let up = rises_to c.args.rate c.args.ten_ms c.requires.rate_below in (
      rw (first, end) (up l.b (l.b + 1) (omega arith) (suc_le left)),
      rw end (le_trans (up (l.b + 1) _ (suc_le left) (le_refl _)) (rw (ap length l.invariant ∙ length_list_of _ _) c.requires.line_count)),
    )

pub loop-b-preserved : goal.loop-b-preserved
loop-b-preserved c =
    let left : c.loop-b.b < bands_of c.args.rate c.args.ten_ms = omega arith in
    let first = limit_at c.args.rate c.args.ten_ms c.requires.rate_below _ _ c.band_limits-limits.ensures (le_of_lt left) in
    let end = limit_at c.args.rate c.args.ten_ms c.requires.rate_below _ _ c.band_limits-limits.ensures (suc_le left) in
    band_more c.args.rate c.args.ten_ms c.requires.rate_below c.args.gains.now c.args.lines.now _ _ _ _ _ left first end c.loop-b.invariant c.shape_band.ensures

pub shape_of-lines : goal.shape_of-lines
shape_of-lines c = ap length c.loop-b.invariant ∙ length_list_of _ _

pub returns : goal.returns
returns c =
    let l = c.loop-b in
    let e : l.b ≡ bands_of c.args.rate c.args.ten_ms = omega (arith, c.requires.gain_count) in
    rw e at l.invariant
