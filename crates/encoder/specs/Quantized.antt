-- The quantizer whole: stage 1, and stage 2 on what it leaves. Definitions only.
use Rattle.std.specs.Prelude.{List, Float}
use Rattle.stage1.specs.Stage1.{rows_of, codes, residual}
use Rattle.stage2.specs.Stage2.{stage2_of}
use Rattle.encoder.specs.declared.Quantized.{Quantized}

-- the answer for sixteen factors: a function of the factors alone
unfoldable pub quantized_of : List Float → Quantized
quantized_of x = record { stage1 = rows_of x; stage2 = stage2_of (residual x) (codes x) }
