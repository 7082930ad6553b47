-- Packing and unpacking undo each other, by induction over the places. What carries it: a number keeps its room,
-- A(n,k) + (2 index + sign) < A(n,k+1). Assumes nothing.
use mathlib.Core.Path.{◌≡◌, refl, ap, ◌∙◌}
use mathlib.Core.List.{List, [], ◌∷◌}
use Prim.Native.Nat.{ℕ, zero, suc, ◌+◌, ◌-◌, ◌*◌, ◌/◌, ◌%◌, ◌≤◌, ◌<◌}
use native.Mathlib.Nat.{zero-add}
use native.Mathlib.Omega.{arith}
use lib.IntN.{ℤ, pos, negsuc}
use lib.ListN.{length}
use Rattle.mpvq_offsets.specs.Offsets.{offset_of, size_of}
use Rattle.numbering.specs.Numbering.{pulses_of, sign_before, lead_sign, pushed, index_of, signed, next_sign, next_index, vector_at}
use Rattle.columns.specs.Column.{column_of}
use Rattle.columns.proofs.Offsets.{step, first, ones, rises, mono, gap}
use Rattle.columns.proofs.Columns.{Column, column, column_is}

Room : ℕ → ℕ → ℕ → ℕ → Type 0
Room n k s i = offset_of n k + (2 * i + s) < offset_of n (suc k)

-- a packed vector

pub sign_below : (v : List ℤ) → lead_sign v < 2
unfolding lead_sign sign_before
sign_below [] = omega arith
sign_below (pos zero ∷ v) = sign_below v
sign_below (pos (suc d) ∷ v) = omega arith
sign_below (negsuc d ∷ v) = omega arith

-- a place with pulses leaves the rest its room
under : (n k m t s : ℕ) → k < m → s < 2 → offset_of n k + t < offset_of n (suc k)
    → offset_of (suc n) m + (2 * (offset_of n k + t) + s) < offset_of (suc n) (suc m)
under n k m t s h hs r = omega (arith, step n m, mono n (suc k) m h, rises n m)

pub room : (v : List ℤ) → offset_of (length v) (pulses_of v) + (2 * index_of v + lead_sign v) < offset_of (length v) (suc (pulses_of v))
unfolding pulses_of lead_sign sign_before pushed index_of
room [] = omega (arith, first 0, ones 0)
room (pos zero ∷ v) = simp zero-add (omega (arith, step (length v) (pulses_of v), room v))
room (pos (suc d) ∷ v) =
    under (length v) (pulses_of v) (suc d + pulses_of v) (2 * index_of v + lead_sign v) 0 (omega arith) (omega arith) (room v)
room (negsuc d ∷ v) =
    under (length v) (pulses_of v) (suc d + pulses_of v) (2 * index_of v + lead_sign v) 1 (omega arith) (omega arith) (room v)

-- pushed on by one place, a number is at most both of its signs
pub pushed_most : (x : ℤ) (i s : ℕ) → pushed x i s ≤ 2 * i + s
unfolding pushed
pushed_most (pos zero) i s = omega arith
pushed_most (pos (suc d)) i s = omega arith
pushed_most (negsuc d) i s = omega arith

pub index_below : (v : List ℤ) (k : ℕ) → pulses_of v ≡ k → 0 < k → index_of v < size_of (length v) k
index_below v zero e h = absurd (omega arith)
index_below v (suc k) e h =
    let r : offset_of (length v) (suc k) + (2 * index_of v + lead_sign v) < offset_of (length v) (suc (suc k)) = rw e at (room v) in
    omega (arith, gap (length v) k)

-- an unpacked vector: its dimension, its pulses and the number that it has

pub record Unpacks (n k s i : ℕ) (v : List ℤ) : Type 0 where
  pub long : length v ≡ n
  pub pulses : pulses_of v ≡ k
  pub index : index_of v ≡ i
  pub sign : lead_sign v ≡ s

none_here : (n k s i : ℕ) (u : List ℤ) → Unpacks n k s i u → Unpacks (suc n) k s (offset_of n k + i) (signed s 0 ∷ u)
unfolding pulses_of lead_sign sign_before pushed index_of signed
none_here n k zero i u d =
    record { long = ap suc d.long; pulses = rw zero-add d.pulses; index = rw (d.long, d.pulses, d.index); sign = d.sign }
none_here n k (suc s) i u d =
    record { long = ap suc d.long; pulses = rw zero-add d.pulses; index = rw (d.long, d.pulses, d.index); sign = d.sign }

some_here : (n k d s t : ℕ) (u : List ℤ) → s < 2 → Unpacks n k (t % 2) (t / 2) u
    → Unpacks (suc n) (suc d + k) s (offset_of n k + t) (signed s (suc d) ∷ u)
unfolding pulses_of lead_sign sign_before pushed index_of signed
some_here n k d zero t u h c =
    record { long = ap suc c.long; pulses = rw c.pulses; index = rw (c.long, c.pulses, c.index, c.sign) (omega arith); sign = refl }
some_here n k d (suc zero) t u h c =
    record { long = ap suc c.long; pulses = rw c.pulses; index = rw (c.long, c.pulses, c.index, c.sign) (omega arith); sign = refl }
some_here n k d (suc (suc s)) t u h c = absurd (omega arith)

renamed : {n k m s i j : ℕ} {v : List ℤ} → k ≡ m → i ≡ j → Unpacks n k s i v → Unpacks n m s j v
renamed p q d = record { long = d.long; pulses = d.pulses ∙ p; index = d.index ∙ q; sign = d.sign }

-- one place, with the column that was found there
place : (n : ℕ) → ((k s i : ℕ) → s < 2 → Room n k s i → Unpacks n k s i (vector_at n k s i))
    → (m s i k d : ℕ) → s < 2 → Room (suc n) m s i → Column n m i k → m - k ≡ d
    → Unpacks (suc n) m s i (signed s d ∷ vector_at n k (next_sign d s (i - offset_of n k)) (next_index d (i - offset_of n k)))
unfolding next_sign next_index Room
place n ih m s i k zero h r c e =
    let p : k ≡ m = omega (arith, c.within) in
    let q : offset_of n k + (i - offset_of n k) ≡ i = omega (arith, c.low) in
    renamed p q (none_here n k s (i - offset_of n k) _ (ih k s (i - offset_of n k) h
    (omega (arith, c.low, step n m, ap (offset_of n) p, ap (λ x. offset_of n (suc x)) p))))
place n ih m s i k (suc d) h r c e =
    let p : suc d + k ≡ m = omega (arith, c.within) in
    let q : offset_of n k + (i - offset_of n k) ≡ i = omega (arith, c.low) in
    renamed p q (some_here n k d s (i - offset_of n k) _ h (ih k ((i - offset_of n k) % 2) ((i - offset_of n k) / 2) (omega arith)
    (omega (arith, c.low, c.high (omega arith)))))

with_room : (n k s i : ℕ) → s < 2 → Room n k s i → Unpacks n k s i (vector_at n k s i)
unfolding vector_at pulses_of lead_sign index_of Room
with_room zero zero s i h r =
    record { long = refl; pulses = refl; index = omega (arith, first 0, ones 0); sign = omega (arith, first 0, ones 0) }
with_room zero (suc k) s i h r = absurd (omega (arith, ones k, ones (suc k)))
with_room (suc n) k s i h r = place n (with_room n) k s i (column_of n k i) (k - column_of n k i) h r (column n k i) refl

-- what stands at a number below the size is a vector of n places and k pulses, whose number it is
pub unpacks : (n k s i : ℕ) → 0 < k → s < 2 → i < size_of n k → Unpacks n k s i (vector_at n k s i)
unfolding Room
unpacks n zero s i p h r = absurd (omega arith)
unpacks n (suc k) s i p h r = with_room n (suc k) s i h (omega (arith, gap n k))

-- what stands at a vector's number is that vector

at_column : (n m s i k d t : ℕ) → column_of n m i ≡ k → m - k ≡ d → i - offset_of n k ≡ t
    → vector_at (suc n) m s i ≡ signed s d ∷ vector_at n k (next_sign d s t) (next_index d t)
unfolding vector_at
at_column n m s i k d t p q r = rw (p, q, r)

pub none_there : (n k s i : ℕ) → vector_at (suc n) (0 + k) s (offset_of n k + i) ≡ signed s 0 ∷ vector_at n k s i
unfolding next_sign next_index
none_there n k s i =
    at_column n (0 + k) s (offset_of n k + i) k 0 i
    (column_is n (0 + k) (offset_of n k + i) k (record { within = omega arith; low = omega arith; high = λ h. absurd (omega arith) }))
    (omega arith) (omega arith)

some_there : (n k d s t : ℕ) → offset_of n k + t < offset_of n (suc k)
    → vector_at (suc n) (suc d + k) s (offset_of n k + t) ≡ signed s (suc d) ∷ vector_at n k (t % 2) (t / 2)
unfolding next_sign next_index
some_there n k d s t r =
    at_column n (suc d + k) s (offset_of n k + t) k (suc d) t
    (column_is n (suc d + k) (offset_of n k + t) k (record { within = omega arith; low = omega arith; high = λ h. r }))
    (omega arith) (omega arith)

after : (v : List ℤ) (x : ℤ) → vector_at (length v) (pulses_of v) (lead_sign v) (index_of v) ≡ v
    → x ∷ vector_at (length v) (pulses_of v) ((2 * index_of v + lead_sign v) % 2) ((2 * index_of v + lead_sign v) / 2) ≡ x ∷ v
after v x ih =
    let a : (2 * index_of v + lead_sign v) % 2 ≡ lead_sign v = omega (arith, sign_below v) in
    let b : (2 * index_of v + lead_sign v) / 2 ≡ index_of v = omega (arith, sign_below v) in
    rw (a, b, ih)

pub no_pulse : (s : ℕ) → signed s 0 ≡ pos 0
unfolding signed
no_pulse zero = refl
no_pulse (suc s) = refl

pub repacks : (v : List ℤ) → vector_at (length v) (pulses_of v) (lead_sign v) (index_of v) ≡ v
unfolding pulses_of lead_sign sign_before pushed index_of signed vector_at
repacks [] = refl
repacks (pos zero ∷ v) = none_there (length v) (pulses_of v) (lead_sign v) (index_of v) ∙ rw (no_pulse (lead_sign v), repacks v)
repacks (pos (suc d) ∷ v) =
    some_there (length v) (pulses_of v) d 0 (2 * index_of v + lead_sign v) (room v) ∙ after v (pos (suc d)) (repacks v)
repacks (negsuc d ∷ v) =
    some_there (length v) (pulses_of v) d 1 (2 * index_of v + lead_sign v) (room v) ∙ after v (negsuc d) (repacks v)
