-- The lines up to the one that is next are multiplied, and the rest are as they were.
use mathlib.Core.Path.{ap}
use native.Mathlib.Omega.{arith}
use native.Mathlib.Nat.{le_refl}
use lib.Ieee.{Float, nan, binary32, mul}
use Rattle.list_laws.proofs.InPlace.{passed_start, passed_step}
use Rattle.shaping.proofs.Laws.{scaled_all}
use Rattle.shaping.proofs.scale.Goals as goal

pub loop-line-init : goal.loop-line-init
loop-line-init c = passed_start _ _ _

pub loop-line-preserved : goal.loop-line-preserved
loop-line-preserved c =
    let l = c.loop-line in
    let p = l.invariant in
    passed_step nan _ c.args.lines.now l.line-items l.line-index _ (omega (arith, p.same)) (ap (λ (x : Float). mul binary32 x c.args.gain) (p.rest l.line-index (le_refl _))) p

pub returns : goal.returns
returns c =
    let l = c.loop-line in
    scaled_all _ _ _ l.line-index (omega (arith, l.invariant.same)) l.invariant
