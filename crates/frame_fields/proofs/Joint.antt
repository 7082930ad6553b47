-- The cases of the joint index, as the code goes through them, and how large it gets. Assumes nothing.
use mathlib.Core.Path.{◌≡◌, refl}
use Prim.Native.Nat.{ℕ, zero, suc, ◌+◌, ◌*◌, ◌%◌, ◌≤◌, ◌<◌}
use native.Mathlib.Nat.{le_of_suc-le-suc, mod-lt}
use native.Mathlib.Omega.{arith}
use lib.Dec.{lit<}
use Rattle.shapes.proofs.Sizes.{size_regular_a, size_regular_b, size_near, size_far}
use Rattle.frame_fields.specs.declared.Numbers.{Numbers}
use Rattle.frame_fields.specs.Accepted.{Indexed}
use Rattle.frame_fields.specs.Joint.{joint_index}
use Rattle.frame_fields.specs.Claims.{JointWithin}

-- ---- the four cases
module _ (s g : ℕ) (n : Numbers) where
  pub joint_0 : s ≡ 0 → (2 * n.index_b + n.sign_b + 2) * 2390004 + n.index_a ≡ joint_index s g n
  unfolding joint_index
  joint_0 e = rw (e, size_regular_a)

  pub joint_1 : s ≡ 1 → g % 2 * 2390004 + n.index_a ≡ joint_index s g n
  unfolding joint_index
  joint_1 e = rw (e, size_regular_a)

  pub joint_2 : s ≡ 2 → n.index_a ≡ joint_index s g n
  unfolding joint_index
  joint_2 e = rw e

pub joint_3 : (s g : ℕ) (n : Numbers) → (s ≡ 0 → ⊥) → (s ≡ 1 → ⊥) → (s ≡ 2 → ⊥) → 15158272 + g % 2 + 2 * n.index_a ≡ joint_index s g n
unfolding joint_index
joint_3 zero g n h k l = absurd (h refl)
joint_3 (suc zero) g n h k l = absurd (k refl)
joint_3 (suc (suc zero)) g n h k l = absurd (l refl)
joint_3 (suc (suc (suc s))) g n h k l = rw size_near

-- ---- how large its parts are
pub b_room : (s : ℕ) (n : Numbers) → Indexed s n → s ≡ 0 → (n.index_b < 6) × (n.sign_b < 2)
b_room s n h e = (rw size_regular_b at (h.index_b e), h.sign_b e)

pub low_room : (s : ℕ) (n : Numbers) → Indexed s n → s < 2 → n.index_a < 2390004
low_room zero n h l = rw size_regular_a at h.index_a
low_room (suc zero) n h l = rw size_regular_a at h.index_a
low_room (suc (suc s)) n h l = absurd (omega arith)

near_room : (n : Numbers) → Indexed 2 n → n.index_a < 15158272
near_room n h = rw size_near at h.index_a

pub far_room : (s : ℕ) (n : Numbers) → Indexed s n → (s ≡ 0 → ⊥) → (s ≡ 1 → ⊥) → (s ≡ 2 → ⊥) → n.index_a < 774912
far_room zero n i h k l = absurd (h refl)
far_room (suc zero) n i h k l = absurd (k refl)
far_room (suc (suc zero)) n i h k l = absurd (l refl)
far_room (suc (suc (suc s))) n i h k l = rw size_far at i.index_a

-- ---- and so the joint index
bit : (g : ℕ) → g % 2 ≤ 1
bit g = le_of_suc-le-suc (mod-lt g (lit< tt))

pub joint_within : JointWithin
unfolding joint_index
joint_within zero g n h = (λ l. rw size_regular_a (omega (arith, low_room 0 n h l, b_room 0 n h refl)), λ l. absurd (omega arith))
joint_within (suc zero) g n h = (λ l. rw size_regular_a (omega (arith, low_room 1 n h l, bit g)), λ l. absurd (omega arith))
joint_within (suc (suc zero)) g n h = (λ l. absurd (omega arith), λ l. omega (arith, near_room n h))
joint_within (suc (suc (suc s))) g n h = (λ l. absurd (omega arith), λ l. rw size_near (omega (arith, rw size_far at h.index_a, bit g)))
