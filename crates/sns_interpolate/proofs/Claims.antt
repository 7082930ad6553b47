-- The claims of specs/Claims.antt. Assumes nothing.
use mathlib.Core.Path.{◌≡◌, sym}
use borrow.Author.Tests.{not-false, eqb-true}
use lib.ListN.{length}
use Rattle.interpolation.specs.Bands.{interpolated, band_limit}
use Rattle.refusals.specs.Answers.{Done}
use Rattle.refusals.specs.declared.Element.TheVariants.{Factor}
use Rattle.sns_interpolate.specs.Interpolate.{interpolate_answer, interpolate_questions}
use Rattle.sns_interpolate.specs.Claims.{InterpolatePinned, InterpolateKeeps, InterpolateTaken, InterpolateTakes}
use Rattle.refusals.proofs.Answers.{done}
use Rattle.refusals.proofs.Elements.{all_done, done_all}
use Rattle.sns_interpolate.proofs.InterpolateAnswers.{by_factors}
use Rattle.refusals.proofs.Pinned.{pinned, keeps}

pub interpolate_pinned : InterpolatePinned
interpolate_pinned factors count old r r' new new' = pinned (interpolate_answer factors count (length old)) (interpolated factors count) old

pub interpolate_keeps : InterpolateKeeps
interpolate_keeps factors count old = keeps (interpolate_answer factors count (length old)) (interpolated factors count) old

pub interpolate_takes : InterpolateTakes
unfolding interpolate_questions
interpolate_takes factors count len = (there, back)
  where
    there : InterpolateTaken factors count len → interpolate_answer factors count len ≡ Done
    there t = sym (by_factors factors count len t.count_ok t.sixteen t.long (all_done (Factor band_limit) 0 factors t.in_range))

    back : interpolate_answer factors count len ≡ Done → InterpolateTaken factors count len
    back e =
        let a = done _ 0 _ _ e in
        let b = done _ 0 _ _ a.1 in
        let d = done _ 0 _ _ b.1 in
        record {
          count_ok = not-false _ a.0;
          sixteen = eqb-true _ 16 (not-false _ b.0);
          long = eqb-true len count (not-false _ d.0);
          in_range = done_all (Factor band_limit) 0 factors d.1;
        }
