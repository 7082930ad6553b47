-- A place that is zero, and one that is not: each answer by the definition's case.
use mathlib.Core.Path.{◌≡◌, refl, sym, ap, ◌∙◌}
use native.Mathlib.Omega.{arith}
use borrow.Author.Tests.{le-ltb}
use Prim.Native.Nat.{ℕ, zero, suc, ◌+◌, ◌*◌}
use lib.IntN.{ℤ, pos, negsuc}
use lib.Signed.{lt_z}
use mir.Syntax.{w32}
use mir.Val.{SFits, to_z, of_z, bool_byte}
use mir.Facts.{to_z-of_z, to_z_pos}
use Rattle.numbering.specs.Numbering.{pushed, sign_before}
use Rattle.numbering.proofs.enc_push_sign.Goals as goal

is_zero : (x : ℤ) → SFits w32 x → of_z w32 x ≡ 0 → x ≡ pos 0
is_zero x f e = sym (to_z-of_z f) ∙ ap (to_z w32) e ∙ to_z_pos w32 (omega arith)

pub returns-then-val-eq0 : goal.returns-then-val-eq0
unfolding pushed sign_before
returns-then-val-eq0 c = rw (is_zero c.args.val c.ranges.val c.if-val-eq0.true) (refl, refl)

some : (x : ℤ) (index sign : ℕ) → (of_z w32 x ≡ 0 → ⊥) → (2 * index + sign ≡ pushed x index sign) × (bool_byte (lt_z x (pos 0)) ≡ sign_before x sign)
unfolding pushed sign_before
some (pos zero) index sign h = absurd (h refl)
some (pos (suc d)) index sign h = (refl, ap bool_byte (le-ltb (suc d) 0 (omega arith)))
some (negsuc d) index sign h = (refl, refl)

pub returns : goal.returns
returns c =
    let s = some c.args.val c.args.index c.args.sign c.if-val-eq0.false in
    (s.0, c.from.ensures ∙ rw (to_z-of_z c.ranges.val) s.1)
