-- Set A's places, and those after them in shape 0.
use native.Mathlib.Omega.{arith}
use Rattle.shape_numbers.proofs.Places.{places_most}
use Rattle.shape_numbers.proofs.Parts.{a_room, b_room, a_numbers, both_numbers}
use Rattle.shape_numbers.proofs.enumerate.Goals as goal

pub slice_bounds-mvpq_enum-end : goal.slice_bounds-mvpq_enum-end
slice_bounds-mvpq_enum-end c = omega (arith, places_most c.args.shape _ c.new-set.ensures)

pub mvpq_enum-a-requires : goal.mvpq_enum-a-requires
mvpq_enum-a-requires c = a_room _ _ c.new-set.ensures _ c.requires.1

pub mvpq_enum-b-requires : goal.mvpq_enum-b-requires
mvpq_enum-b-requires c = b_room _ _ c.requires.1 c.if-shape-eq0.true

pub returns-then-shape-eq0 : goal.returns-then-shape-eq0
returns-then-shape-eq0 c = both_numbers _ _ c.new-set.ensures _ _ _ c.mvpq_enum-a.ensures.0 c.mvpq_enum-a.ensures.1 c.requires.1 c.if-shape-eq0.true _ _ c.mvpq_enum-b.ensures.0 c.mvpq_enum-b.ensures.1

pub returns : goal.returns
returns c = a_numbers _ _ c.new-set.ensures _ _ _ c.mvpq_enum-a.ensures.0 c.mvpq_enum-a.ensures.1 c.if-shape-eq0.false
