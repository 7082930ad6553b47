-- A pattern that is not above that of infinity, but for its sign, is no NaN's.
use mathlib.Core.Path.{◌≡◌, refl}
use mathlib.Core.Bool.{Bool, true, false, not, ◌&&◌}
use Prim.Native.Nat.{ℕ, ◌%◌, ◌/◌, ◌≤◌}
use native.Mathlib.Omega.{arith}
use lib.Dec.{T, eqb, ltb}
use lib.Ieee.{nan_bits, of_bits}
use borrow.Author.Rules.{rules}
use borrow.Author.Tests.{eqb-true, eqb-false, lt-ltb}
use Rattle.program_input.proofs.float_of.Goals as goal

not_both : (a b : Bool) → (a ≡ true → b ≡ false → ⊥) → T (not (a && not b))
not_both true true h = tt
not_both true false h = absurd (h refl refl)
not_both false b h = tt

no_nan : (bits : ℕ) → bits % 2147483648 ≤ 2139095040 → T (not (eqb (bits % 2147483648 / 8388608) 255 && not (eqb (bits % 8388608) 0)))
no_nan bits h =
    not_both (eqb (bits % 2147483648 / 8388608) 255) (eqb (bits % 8388608) 0)
    (λ ones digits. eqb-false (bits % 8388608) 0 digits (omega (arith, eqb-true (bits % 2147483648 / 8388608) 255 ones)))

pub float_from_bits-result : goal.float_from_bits-result
unfolding nan_bits
float_from_bits-result c = no_nan c.args.bits (search rules)

pub returns-then-bits-gt2139095040 : goal.returns-then-bits-gt2139095040
unfolding of_bits
returns-then-bits-gt2139095040 c =
    let e : ltb 2139095040 (c.args.bits % 2147483648) ≡ true = lt-ltb _ _ c.if-bits-gt2139095040.true in
    rw e refl
