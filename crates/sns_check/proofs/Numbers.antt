-- The answer for one factor in the words of the refusals. Assumes nothing.
use mathlib.Core.Path.{◌≡◌, refl}
use mathlib.Core.Bool.{Bool, true, false, cond}
use lib.Ieee.{Float}
use Rattle.float_laws.specs.Kind.{finite}
use Rattle.float_laws.specs.Decimal.{plus}
use Rattle.factor.specs.declared.Checked.TheVariants as answer
use Rattle.factor.specs.Check.{beyond, checked_of}
use Rattle.sns_check.specs.CheckFactor.{refusal_of, number_of, value_of, carried_by}

pub number_is : (limit x : Float) → number_of (checked_of limit x) ≡ refusal_of limit x
number_is limit x = by (finite x) (beyond limit x)
  where
    by : (f b : Bool) → number_of (cond f (cond b (answer.TooFar x) (answer.Within x)) answer.NotFinite) ≡ cond f (cond b 8 0) 7
    by true true = refl
    by true false = refl
    by false b = refl

pub value_is : (limit x : Float) → value_of (checked_of limit x) ≡ carried_by x
value_is limit x = by (finite x) (beyond limit x)
  where
    by : (f b : Bool) → value_of (cond f (cond b (answer.TooFar x) (answer.Within x)) answer.NotFinite) ≡ cond f x (plus 0 0)
    by true true = refl
    by true false = refl
    by false b = refl
