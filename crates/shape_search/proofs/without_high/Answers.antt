-- The loop is the definition, a place at a time.
use mathlib.Core.Path.{◌≡◌, refl}
use mathlib.Core.List.{List}
use Prim.Native.Nat.{ℕ, suc, ◌+◌, ◌-◌, ◌≤◌}
use native.Mathlib.Omega.{arith}
use borrow.Author.Rules.{rules}
use lib.ListN.{get_or}
use lib.Ieee.{Float, nan, binary32, sub}
use Rattle.pulse_search.specs.declared.SearchRecord.{SearchRecord}
use Rattle.shape_search.specs.Shape.{dropped, dropped_to}
use Rattle.shape_search.proofs.without_high.Goals as goal

dropped_more : (a : List Float) (y : List ℕ) (p r : SearchRecord) (n : ℕ) → 10 ≤ n → r ≡ dropped_to a y p (n - 10) → dropped r (get_or y n 0) (get_or a n nan) ≡ dropped_to a y p (n + 1 - 10)
unfolding dropped_to
dropped_more a y p r n h e =
    let k : n + 1 - 10 ≡ suc (n - 10) = omega arith in
    let m : 10 + (n - 10) ≡ n = omega arith in
    rw (e, k, m)

pub loop-n-init : goal.loop-n-init
unfolding dropped_to
loop-n-init c = refl

pub loop-n-preserved : goal.loop-n-preserved
loop-n-preserved c = rw (c.with_terms-p.ensures (sub binary32) (λ a b r h. search rules)) (dropped_more _ _ _ _ _ (omega arith) c.loop-n.invariant)

pub returns : goal.returns
returns c =
    let e : c.loop-n.n ≡ 16 = omega arith in
    rw e at c.loop-n.invariant
