-- The sixteen codes of two rows: from which codebook each comes, and how large it is. Assumes nothing.
use mathlib.Core.Path.{◌≡◌, refl}
use mathlib.Core.Bool.{Bool, true, false, not, cond}
use Prim.Native.Nat.{ℕ, ◌-◌, ◌<◌, ◌≤◌}
use native.Mathlib.Omega.{arith}
use lib.Dec.{T, ltb, lt→ltb, ltb→lt, nltb→le, not_T}
use lib.Ieee.{Float}
use Rattle.float_laws.specs.Size.{Within}
use Rattle.sns_tables.specs.Codebooks.{lfcb_rows, hfcb_rows, code_at}
use Rattle.sns_tables.specs.Codes.{code_of}
use Rattle.sns_tables.proofs.Sizes.{lfcb_grid, hfcb_grid}

first : (b : Bool) (x y : Float) → T b → x ≡ cond b x y
first true x y t = refl
first false x y t = absurd t

second : (b : Bool) (x y : Float) → T (not b) → y ≡ cond b x y
second true x y t = absurd t
second false x y t = refl

module _ (low high n : ℕ) where
  pub code_low : n < 8 → code_at lfcb_rows low n ≡ code_of low high n
  code_low h = first (ltb n 8) (code_at lfcb_rows low n) (code_at hfcb_rows high (n - 8)) (lt→ltb n 8 h)

  pub code_high : 8 ≤ n → code_at hfcb_rows high (n - 8) ≡ code_of low high n
  code_high h = second (ltb n 8) (code_at lfcb_rows low n) (code_at hfcb_rows high (n - 8)) (not_T (ltb n 8) (λ t. clash (ltb→lt n 8 t)))
    where
      clash : n < 8 → ⊥
      clash g = omega arith

pub code_within : (low high n : ℕ) → low < 32 → high < 32 → n < 16 → Within (code_of low high n) 5 1
code_within low high n h k l = by_half (ltb n 8) (λ t. lfcb_grid.size low n h (ltb→lt n 8 t)) (λ t. hfcb_grid.size high (n - 8) k (after (nltb→le n 8 t)))
  where
    after : 8 ≤ n → n - 8 < 8
    after g = omega arith

    by_half : (b : Bool) → (T b → Within (code_at lfcb_rows low n) 5 1) → (T (not b) → Within (code_at hfcb_rows high (n - 8)) 5 1)
        → Within (cond b (code_at lfcb_rows low n) (code_at hfcb_rows high (n - 8))) 5 1
    by_half true p q = p tt
    by_half false p q = q tt
