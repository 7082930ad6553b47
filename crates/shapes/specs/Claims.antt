-- What is proved of the shapes. Definitions only: it is proved in proofs/Sizes.
use Rattle.std.specs.Prelude.{◌≡◌}
use Rattle.mpvq_offsets.specs.Offsets.{size_of}

-- the sizes of the four sets, each A(0,k) + ... + A(n-1,k)
abbrev pub SizesAre : Type 0
SizesAre = (size_of 10 10 ≡ 2390004) × (size_of 6 1 ≡ 6) × (size_of 16 8 ≡ 15158272) × (size_of 16 6 ≡ 774912)
