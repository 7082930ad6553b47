-- What finding the set of a pair says of the pair. Assumes nothing.
use mathlib.Core.Path.{◌≡◌, refl, ap, ◌∙◌}
use mathlib.Core.Bool.{Bool, true, false, ◌||◌, cond, true≢false, false≢true}
use mathlib.Core.Logic.{◌⊎◌, inl, inr}
use Prim.Native.Nat.{ℕ, ◌≤◌, ◌<◌}
use native.Mathlib.Omega.{arith}
use lib.Dec.{T, eqb, eqb→eq}
use mir.Facts.{and_yes}
use Rattle.float_laws.proofs.Logic.{yes, or_split}
use Rattle.mpvq_offsets.specs.Offsets.{size_of}
use Rattle.shapes.specs.declared.PulseSet.{PulseSet}
use Rattle.std.specs.Prelude.{Option, Some, None}
use Rattle.shapes.specs.Sets.{set_of, same_pair, paired, found_of}

-- the four pairs have at most sixteen places, and from one to ten pulses
pub record Small (n k : ℕ) : Type 0 where
  pub places : n ≤ 16
  pub some : 0 < k
  pub few : k ≤ 10

pub small : (n k : ℕ) → paired n k ≡ true → Small n k
small n k e = last (or_split (same_pair n k 10 10 || same_pair n k 6 1 || same_pair n k 16 8) (same_pair n k 16 6) (yes e))
  where
    at : (a b : ℕ) → T (same_pair n k a b) → a ≤ 16 → 0 < b → b ≤ 10 → Small n k
    at a b t x y z =
        let (p, q) = and_yes (eqb n a) (eqb k b) t in
        let f : n ≡ a = eqb→eq n a p in
        let g : k ≡ b = eqb→eq k b q in
        record { places = omega arith; some = omega arith; few = omega arith }

    two : T (same_pair n k 10 10) ⊎ T (same_pair n k 6 1) → Small n k
    two (inl t) = at 10 10 t (omega arith) (omega arith) (omega arith)
    two (inr t) = at 6 1 t (omega arith) (omega arith) (omega arith)

    three : T (same_pair n k 10 10 || same_pair n k 6 1) ⊎ T (same_pair n k 16 8) → Small n k
    three (inl t) = two (or_split (same_pair n k 10 10) (same_pair n k 6 1) t)
    three (inr t) = at 16 8 t (omega arith) (omega arith) (omega arith)

    last : T (same_pair n k 10 10 || same_pair n k 6 1 || same_pair n k 16 8) ⊎ T (same_pair n k 16 6) → Small n k
    last (inl t) = three (or_split (same_pair n k 10 10 || same_pair n k 6 1) (same_pair n k 16 8) t)
    last (inr t) = at 16 6 t (omega arith) (omega arith) (omega arith)

-- the set that was found, or another
set_in : Option PulseSet → PulseSet → PulseSet
set_in (Some s) other = s
set_in None other = other

is_set : Option PulseSet → Bool
is_set (Some s) = true
is_set None = false

-- what is known of the set of a pair that was found
pub record SetOf (n k : ℕ) (s : PulseSet) : Type 0 where
  pub pair : paired n k ≡ true
  pub dimension : s.dimension ≡ n
  pub pulses : s.pulses ≡ k
  pub size : s.size ≡ size_of n k
  pub small : Small n k

pub found_set : (n k : ℕ) (s : PulseSet) → Some s ≡ found_of n k → SetOf n k s
unfolding found_of set_in is_set
found_set n k s e = go (paired n k) refl
  where
    go : (b : Bool) → paired n k ≡ b → SetOf n k s
    go true p =
        let q : s ≡ set_of n k = ap (λ f. set_in f s) e ∙ ap (λ b. set_in (cond b (Some (set_of n k)) None) s) p in
        record {
          pair = p;
          dimension = ap (λ (t : PulseSet). t.dimension) q;
          pulses = ap (λ (t : PulseSet). t.pulses) q;
          size = ap (λ (t : PulseSet). t.size) q;
          small = small n k p;
        }
    go false p = absurd (true≢false (ap is_set e ∙ ap (λ b. is_set (cond b (Some (set_of n k)) None)) p))

pub found_nothing : (n k : ℕ) → None ≡ found_of n k → paired n k ≡ false
unfolding found_of is_set
found_nothing n k e = go (paired n k) refl
  where
    go : (b : Bool) → paired n k ≡ b → paired n k ≡ false
    go true p = absurd (false≢true (ap is_set e ∙ ap (λ b. is_set (cond b (Some (set_of n k)) None)) p))
    go false p = p
