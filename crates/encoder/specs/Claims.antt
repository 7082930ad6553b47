-- What is shown of the quantizer over the sixteen factors: that its own are by the decoder's formula; and, for factors of at most 512 in size, that no compared
-- value is NaN and that the rows and the choice are the first least. Definitions only; the proofs are in proofs/Claims.
use Rattle.std.specs.Prelude.{◌≡◌, not, List, ℕ, ◌<◌, T, Float}
use Rattle.std.specs.Float.Ieee.{is_nan}
use Rattle.float_laws.specs.Bounded.{Bounded}
use Rattle.float_laws.specs.Least.{FirstLeast}
use Rattle.shape_numbers.specs.Pulses.{pulses_at}
use Rattle.synthesis.specs.Synthesis.{factors_of}
use Rattle.stage1.specs.Stage1.{low_distance, high_distance, low_row, high_row, residual}
use Rattle.stage2_target.specs.Target.{target_of, absolutes_of}
use Rattle.shape_search.specs.Claims.{ComparesFinite}
use Rattle.candidates.specs.Scan.{choices, distortion_at}
use Rattle.stage2.specs.Stage2.{candidates_of}
use Rattle.stage2.specs.Claims.{FirstChoice}
use Rattle.encoder.specs.Quantized.{quantized_of}

-- the sixteen factors of the answer are those that the decoder's formula has for its rows, shape and gain, and the pulses that its numbers unpack to
abbrev pub FactorsOfAnswer : Type 0
FactorsOfAnswer =
    (x : List Float) → let r = (quantized_of x).stage1 in let s = (quantized_of x).stage2 in
    s.scfq ≡ factors_of r.ind_lf r.ind_hf s.shape_j s.gind (pulses_at s.shape_j s.numbers)

-- no compared value is NaN: the distances of the rows, the products of the three searches (these are finite), the distortions of the choices
pub record NothingNan (x : List Float) : Type 0 where
  pub rows : (row : ℕ) → row < 32 → T (not (is_nan (low_distance x row))) × T (not (is_nan (high_distance x row)))
  pub searches : ComparesFinite (absolutes_of (target_of (residual x)))
  pub distortions : (i : ℕ) → i < choices → T (not (is_nan (distortion_at (target_of (residual x)) (candidates_of (target_of (residual x))) i)))

abbrev pub NoneNan : Type 0
NoneNan = (x : List Float) → Bounded 16 512 x → NothingNan x

-- the rows and the choice of the answer are the first with the least computed distance, and the first with the least computed distortion
pub record NearestFirst (x : List Float) : Type 0 where
  pub low : FirstLeast (low_distance x) 32 (low_row x)
  pub high : FirstLeast (high_distance x) 32 (high_row x)
  pub choice : FirstChoice (target_of (residual x))

abbrev pub AllNearest : Type 0
AllNearest = (x : List Float) → Bounded 16 512 x → NearestFirst x
