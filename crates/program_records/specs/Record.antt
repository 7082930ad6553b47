-- What a record of sixteen factors is quantized to. Definitions only.
use Rattle.std.specs.Prelude.{List, Float, Result}
use Rattle.refusals.specs.declared.Refused.{Refused}
use Rattle.refusals.specs.Answers.{giving}
use Rattle.encoder.specs.Quantized.{quantized_of}
use Rattle.sns_encode.specs.Encode.{encode_answer, encoded_of}
use Rattle.program_records.specs.declared.frames.Quantized.{Quantized}

-- the refusal of the factors, or the frame and the sixteen synthesised factors that encoding gives of them
abbrev pub record_as : List Float → Result Quantized Refused
record_as factors = giving (encode_answer factors 16) (record { encoded = encoded_of (quantized_of factors); factors = (quantized_of factors).stage2.scfq })
