-- The check against the limit.
use Rattle.factor.proofs.Laws.{limit_finite_lem}
use Rattle.factor.proofs.check_factor.Goals as goal

pub factor_limit-requires : goal.factor_limit-requires
factor_limit-requires c = tt

pub check_against-requires : goal.check_against-requires
check_against-requires c = rw c.factor_limit.ensures limit_finite_lem

pub returns : goal.returns
returns c = rw c.factor_limit.ensures at c.check_against.ensures
