-- What is claimed of the numbering, once over dimension and pulse count. The proofs are in proofs/Claims.antt.
use Rattle.std.specs.Prelude.{◌≡◌, List, ◌∷◌, ℕ, suc, ◌<◌, ℤ, pos, nat_abs, length, get_or}
use Rattle.mpvq_offsets.specs.Offsets.{size_of}
use Rattle.numbering.specs.Numbering.{PulseVector, lead_sign, index_of, signed, vector_at}

module _ (n k size : ℕ) where
  -- unpack, then pack: every index below the size comes back, and either sign
  abbrev pub IndexComesBack : Type 0
  IndexComesBack = (sign index : ℕ) → sign < 2 → index < size → (lead_sign (vector_at n k sign index) ≡ sign) × (index_of (vector_at n k sign index) ≡ index)

  -- pack, then unpack: every vector of exactly k pulses comes back
  abbrev pub VectorComesBack : Type 0
  VectorComesBack = (v : List ℤ) → PulseVector n k v → vector_at n k (lead_sign v) (index_of v) ≡ v

  -- the unpacked vector has length n and exactly k pulses
  abbrev pub Unpacked : Type 0
  Unpacked = (sign index : ℕ) → sign < 2 → index < size → PulseVector n k (vector_at n k sign index)

  -- the packed index is below the size, and the sign is 0 or 1
  abbrev pub Packed : Type 0
  Packed = (v : List ℤ) → PulseVector n k v → (lead_sign v < 2) × (index_of v < size)

  -- v stands at one sign and index, and at no other
  pub record Once (v : List ℤ) : Type 0 where
    pub sign : ℕ
    pub index : ℕ
    pub sign_below : sign < 2
    pub index_below : index < size
    pub here : vector_at n k sign index ≡ v
    pub only : (s i : ℕ) → s < 2 → i < size → vector_at n k s i ≡ v → (s ≡ sign) × (i ≡ index)

  -- each vector comes exactly once
  abbrev pub EachOnce : Type 0
  EachOnce = (v : List ℤ) → PulseVector n k v → Once v

  pub record OneToOne : Type 0 where
    pub unpack_pack : IndexComesBack
    pub pack_unpack : VectorComesBack
    pub unpacked : Unpacked
    pub packed : Packed
    pub each_once : EachOnce

-- THE CLAIM, for every dimension and every pulse count from 1
abbrev pub Claim : Type 0
Claim = (n k : ℕ) → 0 < k → OneToOne n k (size_of n k)

-- the four pairs, with their sizes
abbrev pub RegularA : Type 0
RegularA = OneToOne 10 10 2390004

abbrev pub RegularB : Type 0
RegularB = OneToOne 6 1 6

abbrev pub OutlierNear : Type 0
OutlierNear = OneToOne 16 8 15158272

abbrev pub OutlierFar : Type 0
OutlierFar = OneToOne 16 6 774912

-- the lead sign, by places: suc d pulses of sign s stand at the lowest place that is not zero
abbrev pub LeadSign : Type 0
LeadSign = (v : List ℤ) (p s d : ℕ) → s < 2 → p < length v → ((j : ℕ) → j < p → get_or v j (pos 0) ≡ pos 0) → get_or v p (pos 0) ≡ signed s (suc d) → lead_sign v ≡ s

-- the order: of two vectors with as many places and pulses, the one with more pulses at the first place comes first
abbrev pub MoreFirst : Type 0
MoreFirst = (n k : ℕ) (x y : ℤ) (u v : List ℤ) → PulseVector n k (x ∷ u) → PulseVector n k (y ∷ v) → nat_abs y < nat_abs x → index_of (x ∷ u) < index_of (y ∷ v)
