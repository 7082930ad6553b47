-- Both rows, the shape and the gain's number stay within their tables, for any factors. Assumes nothing.
use Prim.Native.Nat.{◌<◌}
use mathlib.Core.List.{List}
use lib.Ieee.{Float}
use Rattle.stage1.specs.Stage1.{residual}
use Rattle.stage1.proofs.Nearest.{low_inside, high_inside}
use Rattle.stage2_target.specs.Target.{target_of}
use Rattle.stage2.specs.Stage2.{result_of, stage2_of}
use Rattle.stage2.proofs.Steps.{chosen_shape, chosen_small}
use Rattle.encoder.specs.Quantized.{quantized_of}

pub inside : (x : List Float)
    → ((quantized_of x).stage1.ind_lf < 32) × ((quantized_of x).stage1.ind_hf < 32) × ((quantized_of x).stage2.shape_j < 4) × ((quantized_of x).stage2.gind < 8)
unfolding quantized_of stage2_of result_of
inside x = (low_inside x, high_inside x, chosen_shape (target_of (residual x)), chosen_small (target_of (residual x)))
