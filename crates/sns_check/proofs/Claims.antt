-- The claims of specs/Claims.antt. Assumes nothing.
use mathlib.Core.Path.{◌≡◌, refl, sym, ◌∙◌}
use mathlib.Core.Bool.{Bool, true, false, not, cond}
use Rattle.float_laws.specs.Kind.{finite}
use Rattle.factor.specs.Check.{beyond}
use Rattle.refusals.specs.declared.Refusal.TheVariants.{NotFinite, TooFar}
use Rattle.refusals.specs.Answers.{Done, No, answer_of, number_in}
use Rattle.sns_check.specs.Claims.{CheckPinned, CheckAsked}

pub check_pinned : CheckPinned
check_pinned x r r' s s' = s.answer ∙ sym s'.answer

pub check_asked : CheckAsked
unfolding answer_of
check_asked limit x place = by (finite x) (beyond limit x)
  where
    by : (f b : Bool) → cond f (cond b 8 0) 7 ≡ number_in (cond (not f) (No NotFinite place) (cond b (No TooFar place) Done))
    by true true = refl
    by true false = refl
    by false b = refl
