-- Where `pulses` puts the pulses of the two sets: set A's in front of sixteen zeros, and set B's after them in shape 0. Assumes nothing.
use mathlib.Core.Path.{◌≡◌, refl, sym, ap, ap₂, ◌∙◌}
use mathlib.Core.List.{List, [], ◌∷◌, ◌++◌}
use Prim.Native.Nat.{ℕ, zero, suc, ◌+◌, ◌-◌, ◌≤◌, ◌<◌}
use native.Mathlib.Nat.{le_of_eq}
use native.Mathlib.Omega.{arith}
use lib.IntN.{ℤ, pos}
use lib.ListN.{length, take, drop, replicate, length-append}
use lib.Seq.{take_at, drop_at}
use borrow.Rule.Slice.PartMut.{post_of, put_mid}
use Rattle.shapes.specs.declared.PulseSet.{PulseSet}
use Rattle.shapes.specs.Sets.{set_a, set_b}
use Rattle.shapes.proofs.Sets.{by_set, a_sound}
use Rattle.numbering.specs.Numbering.{vector_at}
use Rattle.frame_fields.specs.declared.Numbers.{Numbers}
use Rattle.shape_numbers.specs.Pulses.{pulses_at}

abbrev pub zeros : List ℤ
zeros = replicate 16 (pos 0)

length_vector : (n k sign index : ℕ) → length (vector_at n k sign index) ≡ n
unfolding vector_at
length_vector zero k sign index = refl
length_vector (suc n) k sign index = ap suc (length_vector n _ _ _)

nothing_after : (w : List ℤ) → w ≡ w ++ []
nothing_after [] = refl
nothing_after (x ∷ w) = ap (λ (v : List ℤ). x ∷ v) (nothing_after w)

-- ---- set A's places
module _ (shape : ℕ) (s : PulseSet) (e : s ≡ set_a shape) where
  pub places_most : s.dimension ≤ 16
  places_most = rw e (a_sound shape).places

  pub pulses_most : s.pulses < 11
  pulses_most = rw e (omega (arith, (a_sound shape).few))

  pub front_length : length (take (s.dimension - 0) zeros) ≡ s.dimension
  front_length = rw e (by_set (λ (p : PulseSet). length (take (p.dimension - 0) zeros) ≡ p.dimension) refl refl refl shape)

  module _ (n : Numbers) (v : List ℤ) (p : v ≡ vector_at s.dimension s.pulses n.sign_a n.index_a) where
    -- shapes 1 to 3: zeros are left
    pub alone : (shape ≡ 0 → ⊥) → v ++ post_of 0 (s.dimension - 0) zeros ≡ pulses_at shape n
    alone d = rw (p, e) (by shape d)
      where
        by : (s : ℕ) → (s ≡ 0 → ⊥) → vector_at (set_a s).dimension (set_a s).pulses n.sign_a n.index_a ++ post_of 0 ((set_a s).dimension - 0) zeros ≡ pulses_at s n
        by zero d = absurd (d refl)
        by (suc zero) d = refl
        by (suc (suc zero)) d = refl
        by (suc (suc (suc s))) d = refl

    -- shape 0: ten places, and six after them
    module _ (z : shape ≡ 0) where
      ten : v ≡ vector_at 10 10 n.sign_a n.index_a
      ten = p ∙ rw (e, z)

      after_ten : v ++ post_of 0 (s.dimension - 0) zeros ≡ vector_at 10 10 n.sign_a n.index_a ++ replicate 6 (pos 0)
      after_ten = rw (ten, e, z)

      pub whole_length : 16 ≤ length (v ++ post_of 0 (s.dimension - 0) zeros)
      whole_length = le_of_eq (sym (ap length after_ten ∙ length-append (vector_at 10 10 n.sign_a n.index_a) (replicate 6 (pos 0)) ∙ ap (λ (n : ℕ). n + 6) (length_vector 10 10 n.sign_a n.index_a)))

      pub back_length : length (take 6 (drop 10 (v ++ post_of 0 (s.dimension - 0) zeros))) ≡ 6
      back_length = rw after_ten (rw (drop_at (vector_at 10 10 n.sign_a n.index_a) (replicate 6 (pos 0)) 10 (length_vector 10 10 n.sign_a n.index_a)))

      pub joined : (b : PulseSet) (w : List ℤ) → b ≡ set_b → w ≡ vector_at b.dimension b.pulses n.sign_b n.index_b
          → put_mid 10 6 (v ++ post_of 0 (s.dimension - 0) zeros) w ≡ pulses_at shape n
      joined b w q r =
          let u = vector_at 10 10 n.sign_a n.index_a in
          let o = replicate 6 (pos 0) in
          let l = length_vector 10 10 n.sign_a n.index_a in
          ap (λ (y : List ℤ). put_mid 10 6 y w) after_ten
          ∙ ap₂ (λ (a : List ℤ) (c : List ℤ). a ++ (w ++ drop 6 c)) (take_at u o 10 l) (drop_at u o 10 l)
          ∙ ap (λ (x : List ℤ). u ++ x) (sym (nothing_after w) ∙ six) ∙ rw z
        where
          six : w ≡ vector_at 6 1 n.sign_b n.index_b
          six = r ∙ rw q
