-- Checking one factor. Definitions only.
use Rattle.std.specs.Prelude.{◌≡◌, cond, ℕ, Float}
use Rattle.float_laws.specs.Kind.{finite}
use Rattle.float_laws.specs.Decimal.{plus}
use Rattle.factor.specs.declared.Checked.{Checked}
use Rattle.factor.specs.declared.Checked.TheVariants.{Within, TooFar, NotFinite}
use Rattle.factor.specs.Check.{factor_limit, beyond, checked_of}

-- no. 7: a factor is NaN or infinite; no. 8: it is above the limit or below minus the limit; 0: it is taken
abbrev pub refusal_of : Float → Float → ℕ
refusal_of limit x = cond (finite x) (cond (beyond limit x) 8 0) 7

-- the number of each answer
abbrev pub number_of : Checked → ℕ
number_of (Within x) = 0
number_of (TooFar x) = 8
number_of NotFinite = 7

-- the value of each answer: the factor itself, the offending value, or none, for which 0.0 stands
abbrev pub value_of : Checked → Float
value_of (Within x) = x
value_of (TooFar x) = x
value_of NotFinite = plus 0 0

-- the value that comes with the answer for a factor
abbrev pub carried_by : Float → Float
carried_by x = cond (finite x) x (plus 0 0)

-- the answer r for a factor x: which case it is, its number and its value
pub record CheckSays (x : Float) (r : Checked) : Type 0 where
  pub answer : r ≡ checked_of factor_limit x
  pub number : number_of r ≡ refusal_of factor_limit x
  pub value : value_of r ≡ carried_by x
