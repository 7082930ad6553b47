-- What is shown of the target. Definitions only; the proofs are in proofs/Claims.
use Rattle.std.specs.Prelude.{List, ◌≡◌, ℕ, ◌<◌, get_or, Float}
use Rattle.std.specs.Float.{nan}
use Rattle.float_laws.specs.Absolute.{abs_of}
use Rattle.float_laws.specs.Bounded.{Bounded}
use Rattle.stage2_target.specs.Target.{target_of, absolutes_of}

-- factors of at most 512 leave residuals of at most 517; the target then keeps within the 16384 that every comparison of the search has room for
abbrev pub TargetBounded : Type 0
TargetBounded = (residual : List Float) → Bounded 16 517 residual → Bounded 16 16384 (target_of residual)

-- and so do its absolute values
abbrev pub AbsolutesBounded : Type 0
AbsolutesBounded = (limit : ℕ) (t : List Float) → Bounded 16 limit t → Bounded 16 limit (absolutes_of t)

-- an absolute value is its own absolute value
abbrev pub AbsolutesOwn : Type 0
AbsolutesOwn = (t : List Float) (n : ℕ) → n < 16 → abs_of (get_or (absolutes_of t) n nan) ≡ get_or (absolutes_of t) n nan
