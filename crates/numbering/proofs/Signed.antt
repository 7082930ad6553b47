-- A byte's worth of pulses as an i32, with either sign. Assumes nothing.
use mathlib.Core.Path.{◌≡◌, refl, ◌∙◌, subst⁻¹}
use Prim.Native.Nat.{ℕ, zero, suc, ◌<◌}
use native.Mathlib.Omega.{arith}
use lib.IntN.{pos, negsuc, ◌-ℤ◌, +ℤ_idl}
use mir.Syntax.{w32}
use mir.Val.{SFits, to_z, of_z}
use mir.Facts.{to_z_pos, to_z-of_z, sfits_lit}
use Rattle.numbering.specs.Numbering.{signed}

-- minus a byte, as an i32
pub small : (d : ℕ) → d < 256 → to_z w32 d ≡ pos d
small d h = to_z_pos w32 (omega arith)

pub fits : (d : ℕ) → d < 256 → SFits w32 (pos 0 -ℤ pos d)
fits zero h = sfits_lit tt
fits (suc d) h = subst⁻¹ (λ z. SFits w32 z) (+ℤ_idl (negsuc d)) (record { sfits = omega arith })

negative : (s d : ℕ) → d < 256 → (s ≡ 0 → ⊥) → pos 0 -ℤ pos d ≡ signed s d
unfolding signed
negative zero d h z = absurd (z refl)
negative (suc s) zero h z = refl
negative (suc s) (suc d) h z = +ℤ_idl (negsuc d)

-- the two answers: as it is for the sign 0, and minus it for any other
pub plus_is : (s k : ℕ) → k < 256 → s ≡ 0 → to_z w32 k ≡ signed s k
unfolding signed
plus_is s k h e = rw e (small k h)

pub minus_is : (s k : ℕ) → k < 256 → (s ≡ 0 → ⊥) → to_z w32 (of_z w32 (pos 0 -ℤ to_z w32 k)) ≡ signed s k
minus_is s k h d = rw (small k h) (to_z-of_z (fits k h) ∙ negative s k h d)
