-- What the tests for NaN and infinities say, and that a factor that is taken is within the limit. Assumes nothing.
use mathlib.Core.Path.{◌≡◌, refl, sym, ap}
use mathlib.Core.Bool.{Bool, true, false, ◌||◌, not, false≢true}
use Prim.Native.Nat.{ℕ, ◌*◌}
use borrow.Author.Tests.{le-ltb}
use lib.Dec.{T, ltb, nltb→le}
use lib.IntN.{ℤ, pos}
use lib.Ieee.{Float, nan, inf, fin, up, down, lt, neg}
use Rattle.std.specs.Float.{float_is_finite}
use Rattle.float_laws.specs.Kind.{finite}
use Rattle.float_laws.specs.Decimal.{plus}
use Rattle.float_laws.specs.Size.{Within}
use Rattle.float_laws.proofs.Logic.{no}
use Rattle.factor.specs.Check.{factor_limit, beyond}

-- ---- std's test is the definition's
pub finite_is : (x : Float) → float_is_finite x ≡ finite x
unfolding float_is_finite
finite_is nan = refl
finite_is (inf s) = refl
finite_is (fin s m e) = refl

pub limit_finite_lem : T (finite factor_limit)
unfolding factor_limit plus
limit_finite_lem = tt

-- ---- a factor that is finite and not beyond a limit is within it
near : (m : ℕ) (e : ℤ) (x : Float) → T (finite x) → beyond (fin false m e) x ≡ false → Within x (m * up e) (down e)
unfolding lt neg
near m e nan f h = absurd f
near m e (inf s) f h = absurd f
near m e (fin false n d) f h = nltb→le (m * up e * down d) (n * up d * down e) (no (left (ltb (m * up e * down d) (n * up d * down e)) h))
  where
    left : (a : Bool) → a || false ≡ false → a ≡ false
    left true h = absurd (false≢true (sym h))
    left false h = refl
near m e (fin true n d) f h = nltb→le (m * up e * down d) (n * up d * down e) (no h)

-- and one that is within a limit is not beyond it
pub not_beyond : (m : ℕ) (e : ℤ) (x : Float) → Within x (m * up e) (down e) → T (not (beyond (fin false m e) x))
unfolding lt neg
not_beyond m e nan h = absurd h
not_beyond m e (inf s) h = absurd h
not_beyond m e (fin false n d) h = no (ap (λ (b : Bool). b || false) (le-ltb (m * up e * down d) (n * up d * down e) h))
not_beyond m e (fin true n d) h = no (le-ltb (m * up e * down d) (n * up d * down e) h)

-- by the written limit
pub within_limit : (x : Float) → T (finite x) → beyond factor_limit x ≡ false → Within x 64 1
unfolding factor_limit plus
within_limit x f h = near 1 (pos 6) x f h
