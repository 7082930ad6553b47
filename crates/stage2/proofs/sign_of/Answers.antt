-- 1 or 0, as the test says.
use Rattle.stage2.proofs.sign_of.Goals as goal

pub returns-then-t : goal.returns-then-t
returns-then-t c = rw c.if-t.true

pub returns-else-t : goal.returns-else-t
returns-else-t c = rw c.if-t.false
