-- The two stages, one on what the other leaves.
use Rattle.encoder.specs.Quantized.{quantized_of}
use Rattle.encoder.proofs.run_quant.Goals as goal

pub returns : goal.returns
unfolding quantized_of
returns c = rw (c.sns_quant_stage1-stage1.ensures.value, c.sns_quant_stage2-stage2.ensures, c.sns_quant_stage1-stage1.ensures.r1_after, c.sns_quant_stage1-stage1.ensures.st1_after)
