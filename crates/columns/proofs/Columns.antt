-- The column found: the greatest, from k down, whose offset is at most the index. Assumes nothing.
use mathlib.Core.Path.{◌≡◌, refl, sym, ◌∙◌}
use mathlib.Core.Bool.{Bool, true, false, cond}
use mathlib.Core.Logic.{◌⊎◌, inl, inr}
use Prim.Native.Nat.{ℕ, zero, suc, ◌-◌, ◌≤◌, ◌<◌}
use native.Mathlib.Nat.{eq-or-lt_of_le}
use native.Mathlib.Omega.{arith}
use borrow.Author.Tests.{leb-true, leb-false}
use lib.Dec.{leb}
use Rattle.mpvq_offsets.specs.Offsets.{offset_of}
use Rattle.columns.specs.Column.{column_of}
use Rattle.columns.proofs.Offsets.{first, mono, above_zero}

pub record Column (n m i k : ℕ) : Type 0 where
  pub within : k ≤ m
  pub low : offset_of n k ≤ i
  pub high : k < m → i < offset_of n (suc k)

pub column : (n m i : ℕ) → Column n m i (column_of n m i)
unfolding column_of
column n zero i = record { within = omega arith; low = omega (arith, first n); high = λ h. omega arith }
column n (suc m) i = go (leb (offset_of n (suc m)) i) refl (column n m i)
  where
    go : (b : Bool) → leb (offset_of n (suc m)) i ≡ b → Column n m i (column_of n m i)
        → Column n (suc m) i (cond b (suc m) (column_of n m i))
    go true e c = record { within = omega arith; low = leb-true _ _ e; high = λ h. omega arith }
    go false e c = record { within = omega arith; low = c.low; high = λ h. last (eq-or-lt_of_le c.within) }
      where
        last : (column_of n m i ≡ m) ⊎ (column_of n m i < m) → i < offset_of n (suc (column_of n m i))
        last (inl p) = rw p (leb-false (offset_of n (suc m)) i e)
        last (inr q) = c.high q

-- what a look at column m tells of the one found

pub column_from : (n k m i : ℕ) → m ≤ k → offset_of n m ≤ i → m ≤ column_of n k i
column_from n k m i l h =
    let c = column n k i in
    let p : column_of n k i < m → ⊥ = λ q. omega (arith, mono n (suc (column_of n k i)) m q, c.high (omega arith), h) in
    omega arith

pub column_under : (n k m i : ℕ) → i < offset_of n m → column_of n k i < m
column_under n k m i h =
    let p : m ≤ column_of n k i → ⊥ = λ q. omega (arith, mono n m (column_of n k i) q, (column n k i).low, h) in
    omega arith

-- no other column is such a one
pub column_is : (n m i k : ℕ) → Column n m i k → column_of n m i ≡ k
column_is n m i k d = go (eq-or-lt_of_le d.within) (column_from n m k i d.within d.low)
  where
    go : (k ≡ m) ⊎ (k < m) → k ≤ column_of n m i → column_of n m i ≡ k
    go (inl e) h = omega (arith, (column n m i).within)
    go (inr l) h = omega (arith, column_under n m (suc k) i (d.high l))

-- index 0 leaves no pulse
pub column_zero : (n k : ℕ) → column_of n k 0 ≡ 0
column_zero n k = omega (arith, column_under n k 1 0 (above_zero n 0))

pub column_stays : (n k i : ℕ) → offset_of n k ≤ i → column_of n k i ≡ k
column_stays n k i h = omega (arith, (column n k i).within, column_from n k k i (omega arith) h)

-- the offset of column m is above the index: from m - 1, or any column above it, down, the same is found
pub column_falls : (n k m i : ℕ) → m ≤ suc k → i < offset_of n m → column_of n k i ≡ column_of n (m - 1) i
column_falls n k m i l h =
    let under = column_under n k m i h in
    let d = column n (m - 1) i in
    let up = column_from n k (column_of n (m - 1) i) i (omega (arith, d.within)) d.low in
    let down = column_from n (m - 1) (column_of n k i) i (omega (arith, under)) (column n k i).low in
    omega (arith, up, down)

-- a column c that is the one found, with its offset o
pub record Found (n k i c o : ℕ) : Type 0 where
  pub is : column_of n k i ≡ c
  pub offset : o ≡ offset_of n c
  pub low : o ≤ i

pub found_here : (n k i o : ℕ) → o ≡ offset_of n k → o ≤ i → Found n k i k o
found_here n k i o e l = record { is = column_stays n k i (omega arith); offset = e; low = l }

-- the offset p of the column above c is above the index, that of c is not
pub found_next : (n k i c o p : ℕ) → suc c ≤ k → p ≡ offset_of n (suc c) → i < p → o ≡ offset_of n c → o ≤ i → Found n k i c o
found_next n k i c o p l f h e g =
    let z : suc c - 1 ≡ c = omega arith in
    record { is = (rw z at (column_falls n k (suc c) i (omega arith) (omega arith))) ∙ column_stays n c i (omega arith); offset = e; low = g }

-- what is left of the index
pub left_is : (n k i c o : ℕ) → Found n k i c o → (c ≡ column_of n k i) × (i - o ≡ i - offset_of n (column_of n k i))
left_is n k i c o f = (sym f.is, rw (f.offset, f.is))

pub column_within : (n k i : ℕ) → column_of n k i ≤ k
column_within n k i = (column n k i).within
