-- The three outcomes: a product too large, a total over six, the projection kept.
use mathlib.Core.Path.{sym, ◌∙◌}
use Rattle.projection.proofs.Projection.{factor_is, all_below, dropped_large, dropped_total, lost, kept}
use Rattle.projection.proofs.projected_pulses.Goals as goal

pub invariant_of-products : goal.invariant_of-products
invariant_of-products c = record { absolute = c.requires; projects = factor_is _ _ c.sum-factor.ensures }

pub projected-y-requires : goal.projected-y-requires
projected-y-requires c = all_below _ c.requires (sym c.some_too_large.ensures ∙ c.if-some_too_large.false)

pub returns-then-some_too_large : goal.returns-then-some_too_large
returns-then-some_too_large c = lost _ (dropped_large _ (sym c.some_too_large.ensures ∙ c.if-some_too_large.true))

pub returns-then-k-gt6 : goal.returns-then-k-gt6
returns-then-k-gt6 c =
    let w = c.if-k-gt6.true in
    lost _ (dropped_total _ (sym c.some_too_large.ensures ∙ c.if-some_too_large.false) (rw (c.total-k.ensures, c.projected-y.ensures) at w))

pub returns : goal.returns
returns c = kept _ _ _ _ (sym c.some_too_large.ensures ∙ c.if-some_too_large.false) c.projected-y.ensures c.total-k.ensures c.if-k-gt6.false c.pair_of-pair.ensures
