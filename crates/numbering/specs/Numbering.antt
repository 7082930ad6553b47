-- The numbering of pulse vectors, as LC3 has it, for any dimension and pulse count. Definitions only.
-- A(n,k) is `offset_of n k`, and the size A(0,K) + ... + A(n-1,K) is `size_of n K`: both stand with the table of offsets.
use Rattle.std.specs.Prelude.{◌≡◌, List, [], ◌∷◌, ℕ, zero, suc, ◌+◌, ◌-◌, ◌*◌, ◌/◌, ◌%◌, ℤ, pos, negsuc, nat_abs, length}
use Rattle.columns.specs.Column.{column_of}
use Rattle.mpvq_offsets.specs.Offsets.{offset_of}

-- the pulses of a vector: its absolute values' sum
unfoldable pub pulses_of : List ℤ → ℕ
pulses_of [] = 0
pulses_of (x ∷ v) = nat_abs x + pulses_of v

-- A vector of dimension n with K pulses is n signed whole numbers whose absolute values add up to K.
pub record PulseVector (n k : ℕ) (v : List ℤ) : Type 0 where
  pub places : length v ≡ n
  pub pulses : pulses_of v ≡ k

-- The lead sign is that of the lowest place that is not zero: 0 positive, 1 negative. (Zeros alone have none: 0 stands for it.)
unfoldable pub sign_before : ℤ → ℕ → ℕ
sign_before (pos zero) sign = sign
sign_before (pos (suc d)) sign = 0
sign_before (negsuc d) sign = 1

unfoldable pub lead_sign : List ℤ → ℕ
lead_sign [] = 0
lead_sign (x ∷ v) = sign_before x (lead_sign v)

-- PACKING. The vectors of one dimension, pulse count and lead sign are numbered from 0, the more pulses at the first place
-- the sooner. With n places and k pulses left after the first place, A(n,k) vectors come before: one for each rest with fewer
-- pulses, of either lead sign. From there on the rests follow each other by their own number.

-- After a place with pulses the rest has a lead sign of its own, so its number is twice its index plus that sign.
-- After a place with none its lead sign is the vector's, and its number is its index.
unfoldable pub pushed : ℤ → ℕ → ℕ → ℕ
pushed (pos zero) index sign = index
pushed (pos (suc d)) index sign = 2 * index + sign
pushed (negsuc d) index sign = 2 * index + sign

unfoldable pub index_of : List ℤ → ℕ
index_of [] = 0
index_of (x ∷ v) = offset_of (length v) (pulses_of v) + pushed x (index_of v) (lead_sign v)

-- UNPACKING, the same read backwards. The pulses left after a place are the column that the index falls into, `column_of`.

-- d pulses of a sign: positive for 0, negative for any other
unfoldable pub signed : ℕ → ℕ → ℤ
signed zero d = pos d
signed (suc s) zero = pos 0
signed (suc s) (suc d) = negsuc d

-- the lead sign and the index of the places after one with d pulses, r being what is left of the index
unfoldable pub next_sign : ℕ → ℕ → ℕ → ℕ
next_sign zero sign r = sign
next_sign (suc d) sign r = r % 2

unfoldable pub next_index : ℕ → ℕ → ℕ
next_index zero r = r
next_index (suc d) r = r / 2

-- the vector of dimension n with k pulses that has this lead sign and this index
unfoldable pub vector_at : ℕ → ℕ → ℕ → ℕ → List ℤ
vector_at zero k sign index = []
vector_at (suc n) k sign index =
    let left = column_of n k index in
    let r = index - offset_of n left in
    signed sign (k - left) ∷ vector_at n left (next_sign (k - left) sign r) (next_index (k - left) r)
