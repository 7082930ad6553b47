-- A running sum: no term, one term more, its size, and that it has no minus sign where its terms have none. Assumes nothing.
use mathlib.Core.Path.{◌≡◌, refl, sym, subst}
use Prim.Native.Nat.{ℕ, zero, suc, ◌+◌, ◌*◌, ◌^◌, ◌≤◌, ◌<◌, zero-le}
use native.Mathlib.Nat.{le_trans, le-suc, mul-le-mul_left, mul-zero}
use native.Mathlib.Numerals.{add-one}
use native.Mathlib.Omega.{arith}
use lib.Dec.{T, lit<}
use lib.Ieee.{Float, binary32, of_bits, add}
use Rattle.float_laws.specs.Kind.{plain}
use Rattle.float_laws.specs.Size.{Within}
use Rattle.float_laws.specs.Running.{sum_to}
use Rattle.float_laws.proofs.NoNan.{add_plain}
use Rattle.float_laws.proofs.Size.{whole_exact, add_within}

pub sum_none : (g : ℕ → Float) → of_bits binary32 0 ≡ sum_to g 0
unfolding sum_to
sum_none g = refl

pub sum_suc : (g : ℕ → Float) (n : ℕ) → add binary32 (sum_to g n) (g n) ≡ sum_to g (suc n)
unfolding sum_to
sum_suc g n = refl

-- as a loop's turn has it
pub sum_more : (g : ℕ → Float) (n : ℕ) (s x : Float) → s ≡ sum_to g n → x ≡ g n → add binary32 s x ≡ sum_to g (n + 1)
sum_more g n s x p q = rw (p, q, add-one) (sum_suc g n)

zero_within : Within (of_bits binary32 0) 0 1
unfolding of_bits
zero_within = zero-le

-- n terms of at most b each, as long as b times their number is held exactly
pub sum_within : (g : ℕ → Float) (b k : ℕ) → b * k ≤ 2 ^ 24 → ((i : ℕ) → i < k → Within (g i) b 1) → (n : ℕ) → n ≤ k → Within (sum_to g n) (b * n) 1
unfolding sum_to
sum_within g b k h t zero l = subst (λ (a : ℕ). Within (of_bits binary32 0) a 1) (sym (mul-zero b)) zero_within
sum_within g b k h t (suc n) l =
    add_within binary32 (b * suc n) 1 (lit< tt) (whole_exact binary32 (b * suc n) (le_trans (mul-le-mul_left b l) h)) (sum_to g n) (g n) (b * n) b (more b n)
    (sum_within g b k h t n (le_trans (le-suc n) l)) (t n l)
  where
    more : (b n : ℕ) → b * n + b ≤ b * suc n
    more b n = omega arith

zero_plain : T (plain (of_bits binary32 0))
unfolding of_bits
zero_plain = tt

pub sum_plain : (g : ℕ → Float) (k : ℕ) → ((i : ℕ) → i < k → T (plain (g i))) → (n : ℕ) → n ≤ k → T (plain (sum_to g n))
unfolding sum_to
sum_plain g k t zero l = zero_plain
sum_plain g k t (suc n) l = add_plain binary32 (sum_to g n) (g n) (sum_plain g k t n (le_trans (le-suc n) l)) (t n l)
