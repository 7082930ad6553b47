-- The claims of both stages; for factors of at most 512 the residuals are at most 517. Assumes nothing.
use mathlib.Core.List.{List}
use lib.Dec.{lit≤}
use lib.Ieee.{Float}
use Rattle.float_laws.specs.Bounded.{Bounded}
use Rattle.float_laws.proofs.Size.{bounded_finite}
use Rattle.stage1.specs.Stage1.{codes, residual}
use Rattle.stage2_target.specs.Target.{target_of}
use Rattle.candidates.proofs.Claims.{no_distortion_nan}
use Rattle.stage2.specs.Stage2.{candidates_of}
use Rattle.stage2.proofs.Claims.{choice_first, factors_again, residual_no_nan}
use Rattle.stage1.proofs.Nearest as rows
use Rattle.stage1.proofs.Residual.{residual_within}
use Rattle.encoder.specs.Quantized.{quantized_of}
use Rattle.encoder.specs.Claims.{FactorsOfAnswer, NoneNan, AllNearest}

pub factors_of_answer : FactorsOfAnswer
unfolding quantized_of
factors_of_answer x = factors_again (residual x) (codes x)

residuals : (x : List Float) → Bounded 16 512 x → Bounded 16 517 (residual x)
residuals x B = residual_within 512 (lit≤ tt) x B

pub none_nan : NoneNan
none_nan x B =
    let f = residual_no_nan (residual x) (residuals x B) in
    record {
      rows = λ row h. rows.no_distance_nan x (bounded_finite 16 512 x B) row h;
      searches = f.0;
      distortions = λ i h. no_distortion_nan (target_of (residual x)) (candidates_of (target_of (residual x))) f.1 i h;
    }

pub all_nearest : AllNearest
all_nearest x B = record {
  low = rows.low_first x (bounded_finite 16 512 x B);
  high = rows.high_first x (bounded_finite 16 512 x B);
  choice = choice_first (target_of (residual x)) (residual_no_nan (residual x) (residuals x B)).1.target;
}
