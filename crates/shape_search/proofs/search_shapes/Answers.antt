-- Each step reaches the next shape of the definition.
use mathlib.Core.Path.{refl, ◌∙◌, ap}
use mathlib.Core.List.{List}
use Prim.Native.Nat.{ℕ}
use native.Mathlib.Nat.{le_of_eq, le_trans}
use lib.Dec.{lit<, lit≤}
use Rattle.pulse_search.specs.Pulse.{total_to}
use Rattle.projection.specs.Projection.{projection}
use Rattle.projection.specs.declared.Start.{Start}
use Rattle.shape_search.specs.Shape.{shape3, shape2, lowered}
use Rattle.shape_search.proofs.Shapes.{begun, on_three, on_two, on_low, on_one, room, four_are}
use Rattle.projection.proofs.Projection.{projection_length, projection_total}
use Rattle.shape_search.proofs.Facts.{three_length, three_total, low_length, low_total, low_all, largest_under}
use Rattle.shape_search.proofs.search_shapes.Goals as goal

pub add_unit_pulse-r-requires : goal.add_unit_pulse-r-requires
add_unit_pulse-r-requires c =
    let a = c.args.abs_x.now in
    let k = ap (λ (b : Start). b.k) c.project-s.ensures in
    room a (projection a) _ _ (begun (projection a) _ c.project-s.ensures) 15 _ 6 6 (lit< tt) (projection_length a) (projection_total a) (le_trans (le_of_eq k) (projection_total a)) (lit≤ tt)

pub add_unit_pulse-r-requires-2 : goal.add_unit_pulse-r-requires-2
add_unit_pulse-r-requires-2 c =
    let a = c.args.abs_x.now in
    let h3 = on_three a _ _ _ _ _ (begun (projection a) _ c.project-s.ensures) (ap (λ (b : Start). b.k) c.project-s.ensures) c.add_unit_pulse-r.ensures.pulses c.add_unit_pulse-r.ensures.pair in
    room a (shape3 a) _ _ h3 15 6 8 6 (lit< tt) (three_length a) (le_of_eq (three_total a)) (lit≤ tt) (lit≤ tt)

pub add_unit_pulse-requires : goal.add_unit_pulse-requires
add_unit_pulse-requires c =
    let a = c.args.abs_x.now in
    let h3 = on_three a _ _ _ _ _ (begun (projection a) _ c.project-s.ensures) (ap (λ (b : Start). b.k) c.project-s.ensures) c.add_unit_pulse-r.ensures.pulses c.add_unit_pulse-r.ensures.pair in
    let h2 = on_two a _ _ _ _ 6 h3 c.add_unit_pulse-r-2.ensures.pulses c.add_unit_pulse-r-2.ensures.pair in
    let hl = on_low a (shape2 a) _ _ h2 _ _ c.low_places-y1.ensures c.without_high-r.ensures in
    let k = c.total-k.ensures ∙ ap (λ (y : List ℕ). total_to y 10) hl.pulses in
    room a (lowered a (shape2 a)) _ _ hl 9 _ 10 8 (lit< tt) (low_length a) (low_all a) (le_trans (le_of_eq k) (le_trans (low_total a) (lit≤ tt))) (lit≤ tt)

pub bounds-y0-n_best : goal.bounds-y0-n_best
bounds-y0-n_best c = rw c.largest_high-n_best.ensures (largest_under _)

pub returns : goal.returns
returns c =
    let a = c.args.abs_x.now in
    let h3 = on_three a _ _ _ _ _ (begun (projection a) _ c.project-s.ensures) (ap (λ (b : Start). b.k) c.project-s.ensures) c.add_unit_pulse-r.ensures.pulses c.add_unit_pulse-r.ensures.pair in
    let h2 = on_two a _ _ _ _ 6 h3 c.add_unit_pulse-r-2.ensures.pulses c.add_unit_pulse-r-2.ensures.pair in
    let hl = on_low a (shape2 a) _ _ h2 _ _ c.low_places-y1.ensures c.without_high-r.ensures in
    let h1 = on_one a _ _ _ _ _ hl c.total-k.ensures c.add_unit_pulse.ensures.pulses c.add_unit_pulse.ensures.pair in
    four_are a _ _ _ _ _ h1.pulses c.largest_high-n_best.ensures h2.pulses h3.pulses refl
