-- What is claimed of pack and unpack. The proofs are in proofs/Claims.antt.
use Rattle.std.specs.Prelude.{◌≡◌, true, List, ℕ, ◌<◌, ℤ, length, Result, Ok}
use Rattle.mpvq_offsets.specs.Offsets.{size_of}
use Rattle.shapes.specs.Sets.{paired}
use Rattle.numbering.specs.Numbering.{PulseVector, vector_at}
use Rattle.numbering.specs.declared.Numbered.{Numbered}
use Rattle.refusals.specs.declared.Refused.{Refused}
use Rattle.refusals.specs.Answers.{Answer, Done}
use Rattle.sns_number.specs.Unpack.{unpack_answer, UnpackSays}
use Rattle.sns_number.specs.Pack.{pack_answer}
use Rattle.refusals.specs.Claims.{Keeps}

abbrev pub UnpackPinned : Type 0
UnpackPinned = (n k sign index : ℕ) (old : List ℤ) (r r' : Answer) (new new' : List ℤ) → UnpackSays n k sign index old r new → UnpackSays n k sign index old r' new' → (r ≡ r') × (new ≡ new')

abbrev pub PackPinned : Type 0
PackPinned = (n k : ℕ) (v : List ℤ) (r r' : Result Numbered Refused) → r ≡ pack_answer n k v → r' ≡ pack_answer n k v → r ≡ r'

abbrev pub UnpackKeeps : Type 0
UnpackKeeps = (n k sign index : ℕ) → Keeps (UnpackSays n k sign index)

-- what unpack takes: one of the four pairs, a buffer of its dimension, the sign 0 or 1, an index below the size
pub record UnpackTaken (n k sign index len : ℕ) : Type 0 where
  pub pair : paired n k ≡ true
  pub long : len ≡ n
  pub sign_below : sign < 2
  pub index_below : index < size_of n k

abbrev pub UnpackTakes : Type 0
UnpackTakes = (n k sign index len : ℕ) → (UnpackTaken n k sign index len → unpack_answer n k sign index len ≡ Done) × (unpack_answer n k sign index len ≡ Done → UnpackTaken n k sign index len)

-- pack takes nothing but the vectors of the four pairs
abbrev pub PackTakes : Type 0
PackTakes = (n k index sign : ℕ) (v : List ℤ) → pack_answer n k v ≡ Ok (record { index = index; sign = sign }) → (paired n k ≡ true) × PulseVector n k v

-- what unpack took is packed again to the same index and sign
abbrev pub UnpackThenPack : Type 0
UnpackThenPack = (n k sign index len : ℕ) → unpack_answer n k sign index len ≡ Done → pack_answer n k (vector_at n k sign index) ≡ Ok (record { index = index; sign = sign })

-- every vector of the four pairs is packed, and what it is packed to is unpacked to the same vector
abbrev pub PackThenUnpack : Type 0
PackThenUnpack = (n k : ℕ) (v : List ℤ) → paired n k ≡ true → PulseVector n k v → (index : ℕ) × (sign : ℕ) × (pack_answer n k v ≡ Ok (record { index = index; sign = sign })) × (unpack_answer n k sign index (length v) ≡ Done) × (vector_at n k sign index ≡ v)
