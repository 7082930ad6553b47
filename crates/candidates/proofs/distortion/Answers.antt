-- The loop is the running sum of the definition.
use mathlib.Core.Path.{◌≡◌}
use Prim.Native.Nat.{min}
use native.Mathlib.Omega.{arith}
use lib.ListN.{length}
use lib.Ieee.{nan}
use Rattle.std.proofs.lemmas.List.{length_push}
use Rattle.std.proofs.lemmas.Slice.Zip.{zip_turn, zip_end}
use Rattle.float_laws.proofs.Running.{sum_none, sum_more}
use Rattle.candidates.specs.Candidate.{distortion_of}
use Rattle.candidates.proofs.distortion.Goals as goal

pub loop-x-init : goal.loop-x-init
loop-x-init c = sum_none _

pub loop-x-preserved : goal.loop-x-preserved
loop-x-preserved c =
    let l = c.loop-x in
    let t = zip_turn c.args.t.now c.args.xq.now l.yielded c.into_iter-x-iterator.result l.x-iterator c.next.new.self _ (cc) (cc) l.yielded_by _ c.in-Some.is c.next.ensures.steps in
    rw length_push (sum_more _ _ _ _ l.invariant (rw (t.2 nan, t.3 nan)))

pub returns : goal.returns
unfolding distortion_of
returns c =
    let l = c.loop-x in
    let e : length l.yielded ≡ min (length c.args.t.now) (length c.args.xq.now) = zip_end c.args.t.now c.args.xq.now l.yielded c.into_iter-x-iterator.result l.x-iterator c.next.new.self _ (cc) (cc) l.yielded_by c.in-None.is c.next.ensures.steps in
    let k : length l.yielded ≡ 16 = omega arith in
    rw k at l.invariant
