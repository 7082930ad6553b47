-- What every set of a shape is like, and what holds of all of them where it holds of each. Assumes nothing.
use mathlib.Core.Path.{◌≡◌, refl}
use Prim.Native.Nat.{ℕ, zero, suc, ◌≤◌, ◌<◌}
use lib.Dec.{lit<, lit≤}
use Rattle.mpvq_offsets.specs.Offsets.{size_of}
use Rattle.shapes.specs.declared.PulseSet.{PulseSet}
use Rattle.shapes.specs.Sets.{set_of, set_a, set_b}

-- what holds of the sets of shapes 0, 2 and 3 holds of set A of every shape
pub by_set : (P : PulseSet → Type 0) → P (set_a 0) → P (set_a 2) → P (set_a 3) → (shape : ℕ) → P (set_a shape)
by_set P a b c zero = a
by_set P a b c (suc zero) = a
by_set P a b c (suc (suc zero)) = b
by_set P a b c (suc (suc (suc shape))) = c

-- at most sixteen places, from one to ten pulses, and the size that its numbering has
pub record SetSound (p : PulseSet) : Type 0 where
  pub places : p.dimension ≤ 16
  pub some : 0 < p.pulses
  pub few : p.pulses ≤ 10
  pub sized : p.size ≡ size_of p.dimension p.pulses

sound : (n k : ℕ) → n ≤ 16 → 0 < k → k ≤ 10 → SetSound (set_of n k)
sound n k p s f = record { places = p; some = s; few = f; sized = refl }

pub a_sound : (shape : ℕ) → SetSound (set_a shape)
a_sound = by_set SetSound (sound 10 10 (lit≤ tt) (lit< tt) (lit≤ tt)) (sound 16 8 (lit≤ tt) (lit< tt) (lit≤ tt)) (sound 16 6 (lit≤ tt) (lit< tt) (lit≤ tt))

pub b_sound : SetSound set_b
b_sound = sound 6 1 (lit≤ tt) (lit< tt) (lit≤ tt)
