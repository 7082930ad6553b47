-- The target's size over the residual's: sixteen terms of at most 517 · 361 / 1024 each. Assumes nothing.
use mathlib.Core.Path.{◌≡◌, sym, ap, ◌∙◌, subst}
use mathlib.Core.List.{List}
use Prim.Native.Nat.{ℕ, ◌<◌, ◌*◌}
use native.Mathlib.Nat.{le_refl}
use lib.Dec.{lit<, lit≤}
use lib.ListN.{get_or}
use lib.Ieee.{Float, nan, binary32, mul}
use Rattle.float_laws.specs.Absolute.{abs_of}
use Rattle.float_laws.specs.Bounded.{Bounded}
use Rattle.float_laws.specs.Size.{Within}
use Rattle.float_laws.proofs.Absolute.{abs_within}
use Rattle.float_laws.proofs.Unsigned.{abs_own}
use Rattle.float_laws.proofs.Running.{sum_within}
use Rattle.float_laws.proofs.Size.{mul_within, whole_exact, within_up}
use Rattle.list_laws.proofs.ListOf.{get_or_list_of}
use Rattle.sns_tables.specs.Rotation.{d_at}
use Rattle.sns_tables.proofs.Sizes.{d_grid}
use Rattle.stage2_target.specs.Target.{target_at, target_of, absolutes_of}
use Rattle.stage2_target.specs.Claims.{TargetBounded, AbsolutesBounded, AbsolutesOwn}

term_within : (residual : List Float) (n : ℕ) → Bounded 16 517 residual → n < 16 → (row : ℕ) → row < 16 → Within (mul binary32 (get_or residual row nan) (d_at row n)) 183 1
term_within residual n B h row l =
    mul_within binary32 (get_or residual row nan) (d_at row n) 517 1 361 1024 183 1 (lit< tt) (lit< tt) (lit< tt) (whole_exact binary32 183 (lit≤ tt)) (lit≤ tt) (B row l) (d_grid.size row n l h)

pub target_bounded : TargetBounded
unfolding target_of target_at
target_bounded residual B n h =
    subst (λ (x : Float). Within x 16384 1) (sym (get_or_list_of 16 (target_at residual) nan n h))
    (within_up (target_at residual n) (183 * 16) 1 16384 1 (lit< tt) (lit≤ tt)
    (sum_within (λ row. mul binary32 (get_or residual row nan) (d_at row n)) 183 16 (lit≤ tt) (term_within residual n B h) 16 (le_refl 16)))

absolute_at : (t : List Float) (n : ℕ) → n < 16 → get_or (absolutes_of t) n nan ≡ abs_of (get_or t n nan)
unfolding absolutes_of
absolute_at t n h = get_or_list_of 16 (λ n. abs_of (get_or t n nan)) nan n h

pub absolutes_bounded : AbsolutesBounded
absolutes_bounded limit t B n h = subst (λ (x : Float). Within x limit 1) (sym (absolute_at t n h)) (abs_within (get_or t n nan) limit 1 (B n h))

pub absolutes_own : AbsolutesOwn
absolutes_own t n h = ap abs_of (absolute_at t n h) ∙ abs_own (get_or t n nan) ∙ sym (absolute_at t n h)
