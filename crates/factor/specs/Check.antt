-- What checking a factor answers. Definitions only.
use Rattle.std.specs.Prelude.{Bool, ◌||◌, cond, Float}
use Rattle.std.specs.Float.Ieee.{lt, neg}
use Rattle.float_laws.specs.Kind.{finite}
use Rattle.float_laws.specs.Decimal.{plus}
use Rattle.factor.specs.declared.Checked.{Checked}
use Rattle.factor.specs.declared.Checked.TheVariants.{Within, TooFar, NotFinite}

-- the limit of a factor that the encoder or the check of one factor is given: 64.0
unfoldable pub factor_limit : Float
factor_limit = plus 64 0

-- a factor is above the limit or below minus the limit
abbrev pub beyond : Float → Float → Bool
beyond limit x = lt limit x || lt x (neg limit)

-- the answer for a factor
abbrev pub checked_of : Float → Float → Checked
checked_of limit x = cond (finite x) (cond (beyond limit x) (TooFar x) (Within x)) NotFinite
