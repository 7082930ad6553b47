-- The two cases of the definition.
use Rattle.projection.specs.Projection.{terms_of}
use Rattle.projection.proofs.Projection.{terms_zero, terms_some}
use Rattle.projection.proofs.with_terms.Goals as goal

pub returns-then-pulses-eq0 : goal.returns-then-pulses-eq0
returns-then-pulses-eq0 g c = λ op h. terms_zero op _ _ _ c.if-pulses-eq0.true

pub returns : goal.returns
unfolding terms_of
returns g c = λ op h. rw (h _ _ _ c.op.ensures, h _ _ _ c.op-2.ensures, c.from-m.ensures) (terms_some op _ _ _ c.if-pulses-eq0.false)
