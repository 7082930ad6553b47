-- A shape's own choices, or those of the shapes after it.
use mathlib.Core.Path.{◌∙◌}
use native.Mathlib.Omega.{arith}
use Rattle.candidates.specs.Scan.{gains_scanned, scanned}
use Rattle.candidates.proofs.Choices.{choice_own, choice_past, choices_are}
use Rattle.candidates.proofs.choice_at.Goals as goal

pub returns-then-k-lt-GAINS : goal.returns-then-k-lt-GAINS
unfolding scanned gains_scanned
returns-then-k-lt-GAINS c = choice_own 0 _ _ _ _ c.if-k-lt-GAINS.true

pub returns-then-k-lt-GAINS-2 : goal.returns-then-k-lt-GAINS-2
unfolding scanned gains_scanned
returns-then-k-lt-GAINS-2 c = choice_own 1 _ _ _ _ c.if-k-lt-GAINS-2.true ∙ choice_past 0 _ _ _ _ c.if-k-lt-GAINS.false

pub returns-then-k-lt-GAINS-3 : goal.returns-then-k-lt-GAINS-3
unfolding scanned gains_scanned
returns-then-k-lt-GAINS-3 c = choice_own 2 _ _ _ _ c.if-k-lt-GAINS-3.true ∙ choice_past 1 _ _ _ _ c.if-k-lt-GAINS-2.false ∙ choice_past 0 _ _ _ _ c.if-k-lt-GAINS.false

pub returns : goal.returns
unfolding scanned gains_scanned
returns c = choice_own 3 _ _ _ _ (omega (arith, c.requires, choices_are)) ∙ choice_past 2 _ _ _ _ c.if-k-lt-GAINS-3.false ∙ choice_past 1 _ _ _ _ c.if-k-lt-GAINS-2.false ∙ choice_past 0 _ _ _ _ c.if-k-lt-GAINS.false
