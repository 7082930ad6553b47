-- A place of a pulse vector, divided by the vector's length, is at most 1 in size: the root of n is at least y wherever y * y ≤ n, by one computed test. Assumes nothing.
use mathlib.Core.Path.{◌≡◌, refl, subst}
use mathlib.Core.Logic.{inl, inr}
use mathlib.Core.Bool.{Bool, true, false, not, ◌||◌}
use Prim.Native.Nat.{ℕ, suc, ◌-◌, ◌*◌, ◌≤◌, ◌<◌}
use native.Mathlib.Nat.{le_trans, le_of_lt, mul-le-mul, eq-zero-or-pos}
use native.Mathlib.Omega.{arith}
use borrow.Author.Tests.{ltb-true, ltb-false}
use lib.Dec.{T, ltb, leb, le→leb, lit<, lit≤}
use lib.ListN.{get_or}
use lib.IntN.{nat_abs}
use lib.Ieee.{binary32, of_bits, of_int, div}
use Rattle.float_laws.specs.Size.{Within, AtLeast, at_leastb}
use Rattle.float_laws.proofs.Size.{at_least_test, whole_exact}
use Rattle.float_laws.proofs.Divide.{div_within}
use Rattle.float_laws.proofs.Whole.{int_within}
use Rattle.list_laws.specs.Every.{every_below, every_from}
use Rattle.list_laws.proofs.Every.{at_below, at_place}
use Rattle.roots.specs.Root.{root_bits, root_of}
use Rattle.roots.specs.Claims.{PlaceUnit}
use Rattle.roots.proofs.Nearest.{roots_count}

-- the root with this pattern is at least y, where y * y ≤ n
covers : ℕ → ℕ → ℕ → Bool
covers n bits y = not (leb (y * y) n) || at_leastb y 1 (of_bits binary32 bits)

-- THE TEST: for every n from 1 to 101 and every y up to 10
all_cover : T (every_from (λ i b. every_below 11 (covers (suc i) b)) 0 root_bits)
unfolding root_bits covers of_bits
all_cover = tt

or_then : (a b : Bool) → T a → T (not a || b) → T b
or_then true b s t = t
or_then false b s t = absurd s

-- a square of at most 101 is that of at most 10
small : (y n : ℕ) → n ≤ 101 → y * y ≤ n → y < 11
small y n k s = go (ltb y 11) refl
  where
    go : (b : Bool) → ltb y 11 ≡ b → y < 11
    go true e = ltb-true y 11 e
    go false e = absurd (omega (arith, mul-le-mul (ltb-false y 11 e) (ltb-false y 11 e)))

pub root_at_least : (n y : ℕ) → 1 ≤ n → n ≤ 101 → y * y ≤ n → AtLeast (root_of n) y 1
unfolding covers root_of
root_at_least n y h k s =
    let b = get_or root_bits (n - 1) 2143289344 in
    let t : T (covers (suc (n - 1)) b y) =
    at_below 11 (covers (suc (n - 1)) b)
    (at_place 2143289344 (λ i b. every_below 11 (covers (suc i) b)) root_bits all_cover (n - 1) (rw roots_count (inside n h k))) y (small y n k s) in
    at_least_test y 1 (of_bits binary32 b)
    (or_then (leb (y * y) n) (at_leastb y 1 (of_bits binary32 b)) (le→leb (y * y) n s) (subst (λ (m : ℕ). T (covers m b y)) (back n h) t))
  where
    back : (n : ℕ) → 1 ≤ n → suc (n - 1) ≡ n
    back n h = omega arith

    inside : (n : ℕ) → 1 ≤ n → n ≤ 101 → n - 1 < 101
    inside n h k = omega arith

-- for pulses y with y * y ≤ n, |y / root n| ≤ 1
pub unit : PlaceUnit
unit n y h k s =
    elim (eq-zero-or-pos (nat_abs y)) [
      | inl e ↦ by 0 1 (lit< tt) (lit≤ tt) (subst (λ (a : ℕ). Within (of_int binary32 y) a 1) e size) (root_at_least n 1 h k h)
      | inr p ↦ by (nat_abs y) (nat_abs y) p (same (nat_abs y)) size (root_at_least n (nat_abs y) h k s)
    ]
  where
    by : (a b : ℕ) → 0 < b → a * 1 * 1 ≤ 1 * (1 * b) → Within (of_int binary32 y) a 1 → AtLeast (root_of n) b 1 → Within (div binary32 (of_int binary32 y) (root_of n)) 1 1
    by a b B l v w = div_within binary32 a 1 b 1 1 1 (lit< tt) B (lit< tt) (lit< tt) (whole_exact binary32 1 (lit≤ tt)) l (of_int binary32 y) (root_of n) v w

    same : (a : ℕ) → a * 1 * 1 ≤ 1 * (1 * a)
    same a = omega arith

    size : Within (of_int binary32 y) (nat_abs y) 1
    size = int_within binary32 y (le_trans (le_of_lt (small (nat_abs y) n k s)) (lit≤ tt))
