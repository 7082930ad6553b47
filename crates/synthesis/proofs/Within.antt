-- The sizes of the factors: K pulses make a sum over columns of at most K * 361 / 1024, their squared length is at least K, and so the gain over the length is small.
-- Assumes nothing.
use mathlib.Core.Path.{◌≡◌, refl, sym, ap, ◌∙◌, subst}
use mathlib.Core.Bool.{Bool, true, false, cond}
use mathlib.Core.List.{List, [], ◌∷◌}
use Prim.Native.Nat.{ℕ, zero, suc, ◌+◌, ◌-◌, ◌*◌, ◌≤◌, ◌<◌}
use native.Mathlib.Nat.{le_trans, le_of_eq, le_of_lt}
use native.Mathlib.Omega.{arith}
use borrow.Author.Tests.{ltb-true, ltb-false}
use lib.Dec.{T, ltb, lit<, lit≤}
use lib.IntN.{ℤ, pos, nat_abs}
use lib.ListN.{get_or, take, drop, take-append-drop}
use lib.Seq.{take_all}
use lib.Ieee.{Float, nan, binary32, round, mul, of_bits}
use Rattle.float_laws.specs.Decimal.{plus, minus}
use Rattle.float_laws.specs.Size.{Within, withinb, exact}
use Rattle.float_laws.proofs.Size.{within_test, within_up, mul_within, add_within}
use Rattle.float_laws.proofs.Divide.{div_within}
use Rattle.float_laws.proofs.Whole.{int_within}
use Rattle.list_laws.specs.Every.{every, every_below, every_from, grid_from}
use Rattle.list_laws.proofs.ListOf.{get_or_list_of}
use Rattle.list_laws.proofs.Every.{at, at_below, at_place, at_grid}
use Rattle.sns_tables.specs.Codebooks.{lfcb_rows, hfcb_rows, code_at}
use Rattle.sns_tables.specs.Rotation.{d_at}
use Rattle.sns_tables.specs.Gains.{over4096, gain_rows, gains_of, gain_at}
use Rattle.sns_tables.proofs.Sizes.{lfcb_grid, hfcb_grid, d_grid, shapes}
use Rattle.shapes.specs.Sets.{set_a}
use Rattle.numbering.specs.Numbering.{pulses_of}
use Rattle.numbering.proofs.Counts.{pulses_append, pulses_next}
use Rattle.roots.proofs.Unit.{root_at_least}
use Rattle.shape_numbers.specs.Pulses.{rest_pulses}
use Rattle.float_laws.specs.Running.{sum_to}
use Rattle.sns_tables.specs.Codes.{code_of, codes_of}
use Rattle.pulse_length.specs.Length.{Sixteen, squared_length, length_of, floats_of}
use Rattle.synthesis.specs.Synthesis.{Synthesisable, scale_of, columns_to, factor_of, factors_of}
use Rattle.synthesis.specs.Claims.{FactorsWithin11}
use Rattle.pulse_length.proofs.Squares.{pulses_under, shape_pulses_lem, shaped_sixteen}
use Rattle.pulse_length.proofs.FloatLaws.{float_at}

-- ---- THE TESTS
-- f32 holds 361 * k / 1024 for the pulse counts that there are
steps_exact : T (every_below 12 (λ k. exact binary32 (361 * k) 1024))
unfolding round
steps_exact = tt

step_exact : (k : ℕ) → k ≤ 11 → T (exact binary32 (361 * k) 1024)
step_exact k h = at_below 12 (λ k. exact binary32 (361 * k) 1024) steps_exact k (omega arith)

-- the codes are at most 4960/1024 in size
low_codes : T (grid_from 8 (λ n k. withinb 4960 1024) 0 lfcb_rows)
unfolding lfcb_rows plus minus
low_codes = tt

high_codes : T (grid_from 8 (λ n k. withinb 4960 1024) 0 hfcb_rows)
unfolding hfcb_rows plus minus
high_codes = tt

-- a shape's largest gain, times 4096
top_gain : ℕ → ℕ
top_gain shape = get_or (12054 ∷ 21014 ∷ 14808 ∷ 19882 ∷ []) shape 0

gains_top : T (every_from (λ shape row. every (withinb (top_gain shape) 4096) row) 0 gain_rows)
unfolding gain_rows over4096 top_gain
gains_top = tt

gain_top : (shape gain : ℕ) → shape < 4 → gain < gains_of shape → Within (gain_at shape gain) (top_gain shape) 4096
gain_top shape gain h l =
    within_test (top_gain shape) 4096 (gain_at shape gain)
    (at nan (withinb (top_gain shape) 4096) (get_or gain_rows shape []) (at_place [] (λ s row. every (withinb (top_gain s) 4096) row) gain_rows gains_top shape (rw shapes h)) gain l)

code_within : (low high n : ℕ) → low < 32 → high < 32 → n < 16 → Within (code_of low high n) 4960 1024
code_within low high n p q l = by (ltb n 8) refl
  where
    by : (t : Bool) → ltb n 8 ≡ t → Within (cond t (code_at lfcb_rows low n) (code_at hfcb_rows high (n - 8))) 4960 1024
    by true e = within_test 4960 1024 (code_at lfcb_rows low n) (at_grid nan 8 (λ n k. withinb 4960 1024) lfcb_rows low_codes low n (rw lfcb_grid.rows p) (ltb-true n 8 e))
    by false e = within_test 4960 1024 (code_at hfcb_rows high (n - 8)) (at_grid nan 8 (λ n k. withinb 4960 1024) hfcb_rows high_codes high (n - 8) (rw hfcb_grid.rows q) (omega (arith, ltb-false n 8 e)))

-- ---- the sum over columns
module _ (y : List ℤ) (s : Sixteen y) (few : pulses_of y ≤ 11) (n : ℕ) (l : n < 16) where
  pulses_few : (c : ℕ) → pulses_of (take c y) ≤ 11
  pulses_few c = omega (arith, few, ap pulses_of (sym (take-append-drop c y)) ∙ pulses_append (take c y) (drop c y))

  term_within : (c : ℕ) → c < 16 → nat_abs (get_or y c (pos 0)) ≤ 11 → Within (mul binary32 (get_or (floats_of y) c nan) (d_at n c)) (361 * nat_abs (get_or y c (pos 0))) 1024
  term_within c h f =
      let k = nat_abs (get_or y c (pos 0)) in
      mul_within binary32 (get_or (floats_of y) c nan) (d_at n c) k 1 361 1024 (361 * k) 1024 (lit< tt) (lit< tt) (lit< tt) (step_exact k f) (even k)
      (subst (λ (x : Float). Within x k 1) (sym (float_at y s.places c h)) (int_within binary32 (get_or y c (pos 0)) (le_trans f (lit≤ tt)))) (d_grid.size n c l h)
    where
      even : (k : ℕ) → k * 361 * 1024 ≤ 361 * k * (1 * 1024)
      even k = omega arith

  columns_within : (c : ℕ) → c ≤ 16 → Within (columns_to (floats_of y) n c) (361 * pulses_of (take c y)) 1024
  unfolding columns_to sum_to pulses_of of_bits
  columns_within zero h = lit≤ tt
  columns_within (suc c) h =
      let p = pulses_of (take c y) in
      let k = nat_abs (get_or y c (pos 0)) in
      let e = pulses_next y c (rw s.places h) in
      let f : p + k ≤ 11 = subst (λ (m : ℕ). m ≤ 11) e (pulses_few (suc c)) in
      subst (λ (m : ℕ). Within (columns_to (floats_of y) n (suc c)) (361 * m) 1024) (sym e)
      (add_within binary32 (361 * (p + k)) 1024 (lit< tt) (step_exact (p + k) f) (columns_to (floats_of y) n c) (mul binary32 (get_or (floats_of y) c nan) (d_at n c)) (361 * p) (361 * k) (shared p k)
      (columns_within c (le_of_lt h)) (term_within c h (part p k f)))
    where
      shared : (p k : ℕ) → 361 * p + 361 * k ≤ 361 * (p + k)
      shared p k = omega arith

      part : (p k : ℕ) → p + k ≤ 11 → k ≤ 11
      part p k f = omega arith

  pub sum_within : Within (columns_to (floats_of y) n 16) (361 * pulses_of y) 1024
  sum_within = subst (λ (v : List ℤ). Within (columns_to (floats_of y) n 16) (361 * pulses_of v) 1024) (take_all 16 y (le_of_eq s.places)) (columns_within 16 (lit≤ tt))

-- ---- the factors
module _ (low high shape gain : ℕ) (y : List ℤ) (h : Synthesisable low high shape gain y) (n : ℕ) (l : n < 16) where
  sixteen : Sixteen y
  sixteen = shaped_sixteen shape y h.shaped

  -- k pulses, a gain of at most top / 4096 and a root of at least b: the gain over the root is at most q / 1024
  module _ (k top b q : ℕ) (e : pulses_of y ≡ k) (g : Within (gain_at shape gain) top 4096) where
    scaled : 0 < b → k ≤ 11 → b * b ≤ k → T (exact binary32 q 1024) → top * 1 * 1024 ≤ q * (4096 * b) → q * (361 * k) * 1024 ≤ 6177 * (1024 * 1024)
        → Within (mul binary32 (scale_of (gain_at shape gain) y) (columns_to (floats_of y) n 16)) 6177 1024
    unfolding round
    scaled B few r x d m =
        mul_within binary32 (scale_of (gain_at shape gain) y) (columns_to (floats_of y) n 16) q 1024 (361 * k) 1024 6177 1024 (lit< tt) (lit< tt) (lit< tt) tt m
        (div_within binary32 top 4096 b 1 q 1024 (lit< tt) B (lit< tt) (lit< tt) x d (gain_at shape gain) (length_of y) g
        (root_at_least (squared_length y) b sixteen.above sixteen.below (le_trans r (subst (λ (j : ℕ). j ≤ squared_length y) e (pulses_under y)))))
        (subst (λ (j : ℕ). Within (columns_to (floats_of y) n 16) (361 * j) 1024) e (sum_within y sixteen (subst (λ (j : ℕ). j ≤ 11) (sym e) few) n l))

  product_within : Within (mul binary32 (scale_of (gain_at shape gain) y) (columns_to (floats_of y) n 16)) 6177 1024
  unfolding round top_gain
  product_within = at_shape shape (shape_pulses_lem shape y h.shaped) (gain_top shape gain h.tables.shape_below h.tables.gain_below) h.tables.shape_below
    where
      at_shape : (s : ℕ) → pulses_of y ≡ (set_a s).pulses + rest_pulses s → Within (gain_at shape gain) (top_gain s) 4096 → s < 4
          → Within (mul binary32 (scale_of (gain_at shape gain) y) (columns_to (floats_of y) n 16)) 6177 1024
      at_shape zero p g b = scaled 11 12054 3 1005 p g (lit< tt) (lit≤ tt) (lit≤ tt) tt (lit≤ tt) (lit≤ tt)
      at_shape (suc zero) p g b = scaled 10 21014 3 1752 p g (lit< tt) (lit≤ tt) (lit≤ tt) tt (lit≤ tt) (lit≤ tt)
      at_shape (suc (suc zero)) p g b = scaled 8 14808 2 1851 p g (lit< tt) (lit≤ tt) (lit≤ tt) tt (lit≤ tt) (lit≤ tt)
      at_shape (suc (suc (suc zero))) p g b = scaled 6 19882 2 2486 p g (lit< tt) (lit≤ tt) (lit≤ tt) tt (lit≤ tt) (lit≤ tt)
      at_shape (suc (suc (suc (suc s)))) p g b = absurd (omega arith)

  -- the code, and the product
  factor_within : Within (get_or (factors_of low high shape gain y) n nan) 11 1
  unfolding round
  factor_within =
      let code = codes_of low high in
      let x = factor_of code y (scale_of (gain_at shape gain) y) n in
      subst (λ (x : Float). Within x 11 1) (sym (get_or_list_of 16 (factor_of code y (scale_of (gain_at shape gain) y)) nan n l))
      (within_up x 11137 1024 11 1 (lit< tt) (lit≤ tt)
      (add_within binary32 11137 1024 (lit< tt) tt (get_or code n nan) (mul binary32 (scale_of (gain_at shape gain) y) (columns_to (floats_of y) n 16)) 4960 6177 (lit≤ tt)
      (subst (λ (x : Float). Within x 4960 1024) (sym (get_or_list_of 16 (code_of low high) nan n l)) (code_within low high n h.tables.low_row h.tables.high_row l)) product_within))

pub factors_within_11 : FactorsWithin11
factors_within_11 low high shape gain y h n l = factor_within low high shape gain y h n l
