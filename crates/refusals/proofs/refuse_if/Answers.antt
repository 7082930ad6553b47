-- One question: it is given, or none is left.
use Rattle.std.proofs.Common.{◌∙◌, ap}
use Rattle.std.specs.Prelude.{Err}
use Rattle.refusals.proofs.Answers.{given, not_given, none_left}
use Rattle.refusals.proofs.refuse_if.Goals as goal

pub returns-then-given : goal.returns-then-given
returns-then-given c = ap Err c.at.ensures ∙ given _ _ _ _ c.if-given.true

pub returns : goal.returns
returns c = not_given _ _ _ _ c.if-given.false none_left
