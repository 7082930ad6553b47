-- The answer, and from it its number and its value.
use mathlib.Core.Path.{◌≡◌, ap, ◌∙◌}
use Rattle.factor.specs.Check.{factor_limit, checked_of}
use Rattle.sns_check.specs.CheckFactor.{number_of, value_of}
use Rattle.sns_check.proofs.Numbers.{number_is, value_is}
use Rattle.sns_check.proofs.check_factor.Goals as goal

pub returns : goal.returns
returns c =
    let x = c.args.x in
    let e : c.check_factor.result ≡ checked_of factor_limit x = c.check_factor.ensures in
    record { answer = e; number = ap number_of e ∙ number_is factor_limit x; value = ap value_of e ∙ value_is factor_limit x }
