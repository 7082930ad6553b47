-- What is claimed of the joint index. The proofs are in proofs/Joint.antt.
use Rattle.std.specs.Prelude.{ℕ, ◌≤◌, ◌<◌}
use Rattle.frame_fields.specs.declared.Numbers.{Numbers}
use Rattle.frame_fields.specs.Accepted.{Indexed}
use Rattle.frame_fields.specs.Joint.{joint_index}

-- of any numbers in use. Joint index tops: 33460055 for shapes 0 and 1, 16708095 for 2 and 3
abbrev pub JointWithin : Type 0
JointWithin =
    (shape gain : ℕ) (n : Numbers) → Indexed shape n
    → (shape < 2 → joint_index shape gain n ≤ 33460055) × (2 ≤ shape → joint_index shape gain n ≤ 16708095)
