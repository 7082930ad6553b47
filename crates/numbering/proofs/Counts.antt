-- The pulses of a vector in two parts, and place by place. Assumes nothing.
use mathlib.Core.Path.{◌≡◌, sym, ap, ◌∙◌}
use mathlib.Core.List.{List, [], ◌∷◌, ◌++◌}
use Prim.Native.Nat.{ℕ, suc, ◌+◌, ◌<◌}
use native.Mathlib.Nat.{zero-add}
use native.Mathlib.Omega.{arith}
use lib.IntN.{ℤ, pos, nat_abs}
use lib.ListN.{length, get_or, take}
use lib.Seq.{take-suc}
use Rattle.numbering.specs.Numbering.{pulses_of}

pub pulses_append : (v w : List ℤ) → pulses_of (v ++ w) ≡ pulses_of v + pulses_of w
unfolding pulses_of
pulses_append [] w = sym (zero-add (pulses_of w))
pulses_append (y ∷ v) w = rw (pulses_append v w) (joined (nat_abs y) (pulses_of v) (pulses_of w))
  where
    joined : (a b c : ℕ) → a + (b + c) ≡ a + b + c
    joined a b c = omega arith

-- the first places, and one more
pub pulses_next : (v : List ℤ) (n : ℕ) → n < length v → pulses_of (take (suc n) v) ≡ pulses_of (take n v) + nat_abs (get_or v n (pos 0))
unfolding pulses_of
pulses_next v n h = ap pulses_of (take-suc v n (pos 0) h) ∙ pulses_append (take n v) (get_or v n (pos 0) ∷ []) ∙ ap (λ (k : ℕ). pulses_of (take n v) + k) (alone (nat_abs (get_or v n (pos 0))))
  where
    alone : (k : ℕ) → k + 0 ≡ k
    alone k = omega arith
