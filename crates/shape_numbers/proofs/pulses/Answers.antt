-- Set A in front of sixteen zeros, and set B after it in shape 0.
use mathlib.Core.Path.{◌∙◌}
use lib.Dec.{lit<, lit≤}
use Rattle.shape_numbers.proofs.Places.{places_most, pulses_most, front_length, alone, whole_length, back_length, joined}
use Rattle.shape_numbers.proofs.pulses.Goals as goal

pub slice_bounds-y-end : goal.slice_bounds-y-end
slice_bounds-y-end c = places_most c.args.shape _ c.new-a.ensures

pub mpvq_deenum-requires : goal.mpvq_deenum-requires
mpvq_deenum-requires c =
    let n = c.args.shape in
    let e = c.new-a.ensures in
    (places_most n _ e, pulses_most n _ e, front_length n _ e)

pub slice_bounds-y-end-then-shape-eq0 : goal.slice_bounds-y-end-then-shape-eq0
slice_bounds-y-end-then-shape-eq0 c =
    whole_length _ _ c.new-a.ensures c.args.n _ c.mpvq_deenum.ensures c.if-shape-eq0.true

pub mpvq_deenum-requires-then-shape-eq0 : goal.mpvq_deenum-requires-then-shape-eq0
mpvq_deenum-requires-then-shape-eq0 c =
    let b = c.set_b-b.ensures in
    (rw b (lit≤ tt), rw b (lit< tt), back_length _ _ c.new-a.ensures c.args.n _ c.mpvq_deenum.ensures c.if-shape-eq0.true ∙ rw b)

pub returns-then-shape-eq0 : goal.returns-then-shape-eq0
returns-then-shape-eq0 c = joined _ _ c.new-a.ensures c.args.n _ c.mpvq_deenum.ensures c.if-shape-eq0.true _ _ c.set_b-b.ensures c.mpvq_deenum-then-shape-eq0.ensures

pub returns-else-shape-eq0 : goal.returns-else-shape-eq0
returns-else-shape-eq0 c = alone _ _ c.new-a.ensures c.args.n _ c.mpvq_deenum.ensures c.if-shape-eq0.false
