-- Each answer by the questions that are left once the set of the pair is found.
use Rattle.std.proofs.Common.{◌≡◌, Some, arith, length}
use Rattle.std.proofs.lemmas.Grind.{common_steps}
use Rattle.shapes.specs.Sets.{found_of}
use Rattle.refusals.specs.Answers.{answer_of}
use Rattle.sns_number.proofs.Pairs.{found_set}
use Rattle.sns_number.proofs.UnpackAnswers.{by_set}
use Rattle.sns_number.proofs.unpack.unpack.Goals as goal

pub returns-in_err-refuse_if : goal.returns-in_err-refuse_if
unfolding answer_of
returns-in_err-refuse_if c =
    let p : Some c.in_ok-set.set ≡ found_of c.args.dimension c.args.pulses = grind arith in
    let e = by_set _ _ _ c.args.sign c.args.index (length c.args.vector.now) p in
    grind (arith, common_steps)

pub returns-in_err-refuse_if-2 : goal.returns-in_err-refuse_if-2
unfolding answer_of
returns-in_err-refuse_if-2 c =
    let p : Some c.in_ok-set.set ≡ found_of c.args.dimension c.args.pulses = grind arith in
    let e = by_set _ _ _ c.args.sign c.args.index (length c.args.vector.now) p in
    grind (arith, common_steps)

pub returns-in_err-refuse_if-3 : goal.returns-in_err-refuse_if-3
unfolding answer_of
returns-in_err-refuse_if-3 c =
    let p : Some c.in_ok-set.set ≡ found_of c.args.dimension c.args.pulses = grind arith in
    let e = by_set _ _ _ c.args.sign c.args.index (length c.args.vector.now) p in
    grind (arith, common_steps)

pub returns : goal.returns
unfolding answer_of
returns c =
    let p : Some c.in_ok-set.set ≡ found_of c.args.dimension c.args.pulses = grind arith in
    let e = by_set _ _ _ c.args.sign c.args.index (length c.args.vector.now) p in
    let s = found_set _ _ _ p in
    (grind (arith, common_steps), rw (s.dimension, s.pulses) at c.mpvq_deenum.ensures)
