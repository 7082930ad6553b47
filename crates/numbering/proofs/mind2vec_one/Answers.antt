-- A byte fits an i32 with either sign.
use borrow.Author.Rules.{rules}
use Rattle.numbering.proofs.Signed.{small, fits}
use Rattle.numbering.proofs.mind2vec_one.Goals as goal

pub overflow_sub-result : goal.overflow_sub-result
overflow_sub-result c = rw (small c.args.k (search rules)) (fits c.args.k (search rules))
