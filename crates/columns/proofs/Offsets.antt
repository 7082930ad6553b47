-- The offsets rise along a row and along a column, and between two of them lie both signs of a numbering. Assumes nothing.
use mathlib.Core.Path.{◌≡◌, refl}
use Prim.Native.Nat.{ℕ, zero, suc, ◌+◌, ◌-◌, ◌*◌, ◌≤◌, ◌<◌}
use native.Mathlib.Nat.{add-zero, add-suc}
use native.Mathlib.Omega.{arith}
use Rattle.mpvq_offsets.specs.Offsets.{offset_of, size_of}

pub step : (n k : ℕ) → offset_of (suc n) (suc k) ≡ offset_of n k + offset_of (suc n) k + offset_of n (suc k)
unfolding offset_of
step n k = refl

pub first : (n : ℕ) → offset_of n 0 ≡ 0
unfolding offset_of
first zero = refl
first (suc n) = refl

pub ones : (k : ℕ) → offset_of 0 (suc k) ≡ 1
unfolding offset_of
ones k = refl

-- column 1 has offset 1
pub second : (n : ℕ) → offset_of n 1 ≡ 1
second zero = ones 0
second (suc n) = omega (arith, step n 0, first n, first (suc n), second n)

pub rises : (n k : ℕ) → offset_of n k ≤ offset_of n (suc k)
rises zero zero = omega (arith, first 0, ones 0)
rises zero (suc k) = omega (arith, ones k, ones (suc k))
rises (suc n) k = omega (arith, step n k)

rises_by : (n k d : ℕ) → offset_of n k ≤ offset_of n (k + d)
rises_by n k zero = rw add-zero (omega arith)
rises_by n k (suc d) = rw add-suc (omega (arith, rises_by n k d, rises n (k + d)))

pub mono : (n k m : ℕ) → k ≤ m → offset_of n k ≤ offset_of n m
mono n k m h =
    let e : k + (m - k) ≡ m = omega arith in
    rw e at (rises_by n k (m - k))

-- no offset but column 0's is zero
pub above_zero : (n k : ℕ) → 0 < offset_of n (suc k)
above_zero zero k = omega (arith, ones k)
above_zero (suc n) k = omega (arith, step n k, above_zero n k)

-- from a column to the next: both signs of the numbering of n places and k pulses
pub gap : (n k : ℕ) → offset_of n (suc (suc k)) ≡ offset_of n (suc k) + 2 * size_of n (suc k)
unfolding size_of
gap zero k = omega (arith, ones k, ones (suc k))
gap (suc n) k = omega (arith, step n (suc k), gap n k)

row_rises : (n k : ℕ) → offset_of n k ≤ offset_of (suc n) k
row_rises n zero = omega (arith, first n, first (suc n))
row_rises n (suc k) = omega (arith, step n k)

row_rises_by : (n d k : ℕ) → offset_of n k ≤ offset_of (n + d) k
row_rises_by n zero k = rw add-zero (omega arith)
row_rises_by n (suc d) k = rw add-suc (omega (arith, row_rises_by n d k, row_rises (n + d) k))

-- along both
pub mono_rows : (n m k : ℕ) → n ≤ m → offset_of n k ≤ offset_of m k
mono_rows n m k h =
    let e : n + (m - n) ≡ m = omega arith in
    rw e at (row_rises_by n (m - n) k)
