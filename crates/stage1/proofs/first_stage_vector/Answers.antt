-- Each place by the call for it.
use Rattle.std.proofs.Common.{rules}
use lib.Ieee.{nan}
use Rattle.list_laws.proofs.FromFn.{from_fn_is}
use Rattle.stage1.proofs.first_stage_vector.Goals as goal

pub returns : goal.returns
returns c = from_fn_is _ _ _ 16 _ nan c.from_fn.ensures.items (λ i y q h k. search rules)
