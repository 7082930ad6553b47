-- The joint index of a frame. Definitions only.
use Rattle.std.specs.Prelude.{ℕ, zero, suc, ◌+◌, ◌*◌, ◌%◌}
use Rattle.shapes.specs.Sets.{set_a}
use Rattle.frame_fields.specs.declared.Numbers.{Numbers}

-- Joint index: shape 0, (2·b + sign b + 2)·2390004 + a; shape 1, (gain mod 2)·2390004 + a; shape 2, a; shape 3, 15158272 + (gain mod 2) + 2·a.
-- (2390004 is the size of set A in shapes 0 and 1, and 15158272 in shape 2.)
unfoldable pub joint_index : ℕ → ℕ → Numbers → ℕ
joint_index zero gain n = (2 * n.index_b + n.sign_b + 2) * (set_a 0).size + n.index_a
joint_index (suc zero) gain n = gain % 2 * (set_a 1).size + n.index_a
joint_index (suc (suc zero)) gain n = n.index_a
joint_index (suc (suc (suc s))) gain n = (set_a 2).size + gain % 2 + 2 * n.index_a
