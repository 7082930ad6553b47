-- The worked corners of the offsets and the numbering, in one table, and the one claim over it.
use Rattle.std.specs.Prelude.{◌≡◌, List, [], ◌∷◌, ◌++◌, map, ℕ, ℤ, pos, negsuc, replicate}
use Rattle.mpvq_offsets.specs.Offsets.{offset_of}
use Rattle.numbering.specs.Numbering.{vector_at}

-- A(n,k), or the vector of a dimension and a pulse count at a sign and an index
pub data Asked : Type 0 where
  offset : (n k : ℕ) → Asked
  vector : (n k sign index : ℕ) → Asked

pub record Corner : Type 0 where
  pub asked : Asked
  pub right : List ℤ

unfoldable pub answer : Asked → List ℤ
answer (offset n k) = pos (offset_of n k) ∷ []
answer (vector n k sign index) = vector_at n k sign index

unfoldable pub no_pulses : ℕ → List ℤ
no_pulses n = replicate n (pos 0)

unfoldable pub corners : List Corner
corners =
    record { asked = offset 2 3; right = pos 13 ∷ [] } ∷
    record { asked = offset 3 3; right = pos 25 ∷ [] } ∷
    record { asked = offset 9 2; right = pos 19 ∷ [] } ∷
    record { asked = vector 6 1 0 0; right = pos 1 ∷ no_pulses 5 } ∷
    record { asked = vector 6 1 1 5; right = no_pulses 5 ++ negsuc 0 ∷ [] } ∷
    record { asked = vector 10 10 0 0; right = pos 10 ∷ no_pulses 9 } ∷
    record { asked = vector 10 10 0 1; right = pos 9 ∷ pos 1 ∷ no_pulses 8 } ∷
    record { asked = vector 10 10 0 2; right = pos 9 ∷ negsuc 0 ∷ no_pulses 8 } ∷
    record { asked = vector 10 10 0 3; right = pos 9 ∷ pos 0 ∷ pos 1 ∷ no_pulses 7 } ∷
    record { asked = vector 10 10 0 2390003; right = no_pulses 9 ++ pos 10 ∷ [] } ∷
    record { asked = vector 10 10 1 1; right = negsuc 8 ∷ pos 1 ∷ no_pulses 8 } ∷
    record { asked = vector 16 8 0 15158271; right = no_pulses 15 ++ pos 8 ∷ [] } ∷
    record { asked = vector 16 6 0 774911; right = no_pulses 15 ++ pos 6 ∷ [] } ∷
    []

-- every corner's answer is the right one
abbrev pub Corners : Type 0
Corners = map (λ (c : Corner). answer c.asked) corners ≡ map (λ (c : Corner). c.right) corners
