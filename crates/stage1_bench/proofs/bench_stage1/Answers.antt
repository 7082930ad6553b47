-- Both rows are below 32, so the number fits; the rest is stage 1's own answer.
use mathlib.Core.Path.{refl}
use Prim.Native.Nat.{ℕ, ◌+◌, ◌*◌, ◌<◌}
use native.Mathlib.Omega.{arith}
use mir.Syntax.{w32}
use mir.Val.{Fits}
use Rattle.stage1.proofs.Nearest.{low_inside, high_inside}
use Rattle.stage1_bench.proofs.bench_stage1.Goals as goal

small : (n : ℕ) → n < 32 → Fits w32 n
small n h = record { fits = omega arith }

scaled : (n : ℕ) → n < 32 → Fits w32 (n * 256)
scaled n h = record { fits = omega arith }

joined : (m n : ℕ) → m < 32 → n < 32 → Fits w32 (m + n * 256)
joined m n h k = record { fits = omega arith }

pub overflow_cast-result : goal.overflow_cast-result
overflow_cast-result c = rw c.sns_quant_stage1-s.ensures.value (small _ (low_inside _))

pub overflow_cast-result-2 : goal.overflow_cast-result-2
overflow_cast-result-2 c = rw c.sns_quant_stage1-s.ensures.value (small _ (high_inside _))

pub overflow_mul-result : goal.overflow_mul-result
overflow_mul-result c = rw c.sns_quant_stage1-s.ensures.value (scaled _ (high_inside _))

pub overflow_add-result : goal.overflow_add-result
overflow_add-result c = rw c.sns_quant_stage1-s.ensures.value (joined _ _ (low_inside _) (high_inside _))

pub returns-clause-value : goal.returns-clause-value
returns-clause-value c = rw c.sns_quant_stage1-s.ensures.value refl
