-- The four cases of the definition, each within an u32.
use Rattle.std.proofs.Common.{arith}
use Rattle.frame_fields.proofs.Joint.{joint_0, joint_1, joint_2, joint_3, b_room, low_room, far_room}
use Rattle.frame_fields.proofs.joint_index.Goals as goal

pub overflow_mul-result : goal.overflow_mul-result
overflow_mul-result c = record { fits = omega (arith, b_room _ _ c.requires.1 (omega arith)) }

pub overflow_add-result : goal.overflow_add-result
overflow_add-result c = record { fits = omega (arith, b_room _ _ c.requires.1 (omega arith)) }

pub overflow_add-result-in-0 : goal.overflow_add-result-in-0
overflow_add-result-in-0 c = record { fits = omega (arith, b_room _ _ c.requires.1 (omega arith)) }

pub overflow_mul-result-in-0 : goal.overflow_mul-result-in-0
overflow_mul-result-in-0 c = record { fits = omega (arith, b_room _ _ c.requires.1 (omega arith)) }

pub overflow_add-result-in-0-2 : goal.overflow_add-result-in-0-2
overflow_add-result-in-0-2 c = record { fits = omega (arith, b_room _ _ c.requires.1 (omega arith), low_room _ _ c.requires.1 (omega arith)) }

pub overflow_add-result-in-1 : goal.overflow_add-result-in-1
overflow_add-result-in-1 c = record { fits = omega (arith, low_room _ _ c.requires.1 (omega arith)) }

pub overflow_mul-result-in_default : goal.overflow_mul-result-in_default
overflow_mul-result-in_default c = record { fits = omega (arith, far_room _ _ c.requires.1 (λ e. omega (arith, e)) (λ e. omega (arith, e)) (λ e. omega (arith, e))) }

pub overflow_add-result-in_default-2 : goal.overflow_add-result-in_default-2
overflow_add-result-in_default-2 c = record { fits = omega (arith, far_room _ _ c.requires.1 (λ e. omega (arith, e)) (λ e. omega (arith, e)) (λ e. omega (arith, e))) }

pub returns-in-0 : goal.returns-in-0
returns-in-0 c = joint_0 _ _ _ (omega arith)

pub returns-in-1 : goal.returns-in-1
returns-in-1 c = joint_1 _ _ _ (omega arith)

pub returns-in-2 : goal.returns-in-2
returns-in-2 c = joint_2 _ _ _ (omega arith)

pub returns-in_default : goal.returns-in_default
returns-in_default c = joint_3 _ _ _ (λ e. omega (arith, e)) (λ e. omega (arith, e)) (λ e. omega (arith, e))
