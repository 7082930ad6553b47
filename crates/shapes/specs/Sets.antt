-- The sets of pulse vectors that are numbered, and the shapes that are made of them. Definitions only.
use Rattle.std.specs.Prelude.{ℕ, zero, suc, Bool, ◌&&◌, ◌||◌, cond, eqb, Option, Some, None}
use Rattle.mpvq_offsets.specs.Offsets.{size_of}
use Rattle.shapes.specs.declared.PulseSet.{PulseSet}

-- n places with k pulses: its size is A(0,k) + ... + A(n-1,k)
abbrev pub set_of : ℕ → ℕ → PulseSet
set_of n k = record { dimension = n; pulses = k; size = size_of n k }

-- set A of a shape: (10,10) for shapes 0 and 1, (16,8) for 2, (16,6) for 3
abbrev pub set_a : ℕ → PulseSet
set_a zero = set_of 10 10
set_a (suc zero) = set_of 10 10
set_a (suc (suc zero)) = set_of 16 8
set_a (suc (suc (suc s))) = set_of 16 6

-- set B, which shape 0 alone has: (6,1)
abbrev pub set_b : PulseSet
set_b = set_of 6 1

abbrev pub same_pair : ℕ → ℕ → ℕ → ℕ → Bool
same_pair n k a b = eqb n a && eqb k b

-- the pair is one of the four
abbrev pub paired : ℕ → ℕ → Bool
paired n k = same_pair n k 10 10 || same_pair n k 6 1 || same_pair n k 16 8 || same_pair n k 16 6

-- the set of a pair, where it is one of the four
unfoldable pub found_of : ℕ → ℕ → Option PulseSet
found_of n k = cond (paired n k) (Some (set_of n k)) None
