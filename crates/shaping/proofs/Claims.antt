-- The claims of specs/Claims.antt. Assumes nothing.
use mathlib.Core.Path.{◌∙◌}
use Prim.Native.Nat.{◌+◌, ◌≤◌}
use native.Mathlib.Nat.{le_refl, le_trans, lt_of_lt_of_le}
use native.Mathlib.Omega.{arith}
use lib.ListN.{length, get_or}
use lib.Ieee.{nan}
use Rattle.list_laws.proofs.ListOf.{get_or_list_of}
use Rattle.band_index_tables.specs.Bands.{limits_of, bands_of}
use Rattle.shaping.specs.Shaping.{shaped_line}
use Rattle.shaping.specs.Claims.{InBands, PastStay}
use Rattle.shaping.proofs.Laws.{rises_to, untouched, in_band_lem}

pub in_bands : InBands
in_bands rate ten gains lines h b i l p q =
    let last : get_or (limits_of rate ten) (b + 1) 0 ≤ length lines = le_trans (rises_to rate ten h.rate_below (b + 1) (bands_of rate ten) (omega arith) (le_refl _)) h.line_count in
    get_or_list_of (length lines) (λ i. shaped_line (limits_of rate ten) gains (bands_of rate ten) i (get_or lines i nan)) nan i (lt_of_lt_of_le q last)
    ∙ in_band_lem rate ten h.rate_below gains (bands_of rate ten) b i (get_or lines i nan) l (le_refl _) p q

pub past_stay : PastStay
past_stay rate ten gains lines h i p l =
    get_or_list_of (length lines) (λ i. shaped_line (limits_of rate ten) gains (bands_of rate ten) i (get_or lines i nan)) nan i l
    ∙ untouched rate ten h.rate_below gains (bands_of rate ten) i (get_or lines i nan) (le_refl _) p
