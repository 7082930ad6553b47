-- With no pulse at the place the sign and the index stay; otherwise the lowest bit is the next sign.
use mathlib.Core.Path.{◌≡◌, refl}
use Prim.Native.Nat.{ℕ, zero, suc, ◌/◌, ◌%◌}
use Rattle.numbering.specs.Numbering.{next_index, next_sign}
use Rattle.numbering.proofs.setval_update_sign.Goals as goal

some : (d s r : ℕ) → (d ≡ 0 → ⊥) → (r / 2 ≡ next_index d r) × (r % 2 ≡ next_sign d s r)
unfolding next_index next_sign
some zero s r h = absurd (h refl)
some (suc d) s r h = (refl, refl)

pub returns-then-delta-eq0 : goal.returns-then-delta-eq0
unfolding next_index next_sign
returns-then-delta-eq0 c = rw c.if-delta-eq0.true (refl, refl)

pub returns : goal.returns
returns c = some c.args.delta c.args.sign c.args.ind c.if-delta-eq0.false
