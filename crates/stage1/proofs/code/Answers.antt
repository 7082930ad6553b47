-- The low codebook below place 8, the high one from there.
use native.Mathlib.Omega.{arith}
use Rattle.stage1.proofs.Codes.{low_code, high_code}
use Rattle.stage1.proofs.code.Goals as goal

pub returns-then-n-lt8 : goal.returns-then-n-lt8
returns-then-n-lt8 c = low_code _ _ _ _ c.args.codebooks.now.low_is c.requires.0 (omega arith)

pub returns-else-n-lt8 : goal.returns-else-n-lt8
returns-else-n-lt8 c = high_code _ _ _ _ c.args.codebooks.now.high_is c.requires.1 (omega arith) (omega arith)
