-- Each step's result is what the next one asks, and all together are the definition.
use mathlib.Core.Path.{◌∙◌, ap}
use mathlib.Core.List.{List}
use native.Mathlib.Omega.{arith}
use lib.Ieee.{Float}
use Rattle.list_laws.specs.ListOf.{list_of}
use Rattle.shape_search.specs.Shape.{shape_pulses}
use Rattle.stage2_target.proofs.Claims.{absolutes_own}
use Rattle.stage2.proofs.Steps.{four_rows, shape_room, row_is, numbers_room, joint_room, result_is, stage2_is}
use Rattle.stage2.proofs.sns_quant_stage2.Goals as goal

pub search_shapes-y-requires : goal.search_shapes-y-requires
search_shapes-y-requires c = rw c.absolutes-abs_x.ensures (absolutes_own _)

pub add_signs-v-requires : goal.add_signs-v-requires
add_signs-v-requires c = c.search_shapes-y.ensures ∙ ap (λ (a : List Float). list_of 4 (shape_pulses a)) c.absolutes-abs_x.ensures

pub offset_bounds-v-shape_j : goal.offset_bounds-v-shape_j
offset_bounds-v-shape_j c = record { fits = omega (arith, shape_room _ _ c.select-s.ensures) }

pub bounds-v-shape_j : goal.bounds-v-shape_j
bounds-v-shape_j c = omega (arith, shape_room _ _ c.select-s.ensures)

pub enumerate-numbers-requires : goal.enumerate-numbers-requires
enumerate-numbers-requires c = (shape_room _ _ c.select-s.ensures, numbers_room _ _ c.select-s.ensures _ c.add_signs-v.ensures)

pub joint_index-index_joint_j-requires : goal.joint_index-index_joint_j-requires
joint_index-index_joint_j-requires c = (shape_room _ _ c.select-s.ensures, joint_room _ _ c.select-s.ensures _ c.add_signs-v.ensures _ c.enumerate-numbers.ensures)

pub offset_bounds-v-shape_j-2 : goal.offset_bounds-v-shape_j-2
offset_bounds-v-shape_j-2 c = record { fits = omega (arith, shape_room _ _ c.select-s.ensures) }

pub bounds-v-shape_j-2 : goal.bounds-v-shape_j-2
bounds-v-shape_j-2 c = omega (arith, shape_room _ _ c.select-s.ensures)

pub invariant_of-sns_y_shape_j : goal.invariant_of-sns_y_shape_j
invariant_of-sns_y_shape_j c = record { sixteen = four_rows _ _ c.add_signs-v.ensures _ (omega (arith, shape_room _ _ c.select-s.ensures)) }

pub returns : goal.returns
returns c =
    stage2_is _ _ _ _ c.rotate-t2rot.ensures
    (result_is _ _ c.select-s.ensures _ c.add_signs-v.ensures _ c.enumerate-numbers.ensures _ _ _ _ _ c.joint_index-index_joint_j.ensures (row_is _ _ c.select-s.ensures _ c.add_signs-v.ensures) c.scale-g.ensures c.from_codes-scfq.ensures)
