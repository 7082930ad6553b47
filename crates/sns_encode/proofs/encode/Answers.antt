-- What is quantized has its rows, shape and gain within their tables.
use Rattle.encoder.proofs.Inside.{inside}
use Rattle.sns_encode.proofs.encode.Goals as goal

pub new-requires : goal.new-requires
new-requires c = rw c.run_quant-q.ensures (inside _)
