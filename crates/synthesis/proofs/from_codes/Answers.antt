-- The floats are as the definition has them, and each place holds its factor.
use Rattle.std.proofs.Common.{rules}
use lib.Ieee.{nan}
use Rattle.list_laws.proofs.FromFn.{from_fn_is}
use Rattle.synthesis.proofs.Sums.{columns_are}
use Rattle.synthesis.proofs.from_codes.Goals as goal

pub returns : goal.returns
returns c = from_fn_is _ _ _ 16 _ nan c.from_fn.ensures.items (λ i y q h k. let e = columns_are _ _ _ i c.d_by_columns-d.ensures c.floats-x.ensures h in search (rules, e))
