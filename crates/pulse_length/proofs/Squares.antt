-- The pulses of a shape are sixteen, each at most 10 in size, and their squared length is from 1 to 101; and a small pulse as an i32. Assumes nothing.
use mathlib.Core.Path.{◌≡◌, refl, sym, ap, ◌∙◌}
use mathlib.Core.Bool.{Bool, true, false}
use mathlib.Core.List.{List, [], ◌∷◌, ◌++◌}
use Prim.Native.Nat.{ℕ, zero, suc, ◌+◌, ◌-◌, ◌*◌, ◌^◌, ◌≤◌, ◌<◌, zero-le}
use native.Mathlib.Nat.{le_refl, le_trans, mul-le-mul, zero-add}
use native.Mathlib.Numerals.{add-one}
use native.Mathlib.Omega.{arith}
use borrow.Author.Tests.{ltb-true, ltb-false}
use lib.Dec.{T, ltb, le→leb, lt→ltb, lit≤}
use lib.IntN.{ℤ, pos, negsuc, nat_abs, ◌*ℤ◌}
use lib.ListN.{length, get_or, take, drop, length-append, take-append-drop, drop_of_length-le}
use lib.Seq.{drop-cons}
use lib.Ieee.{binary32, in_float}
use mir.Syntax.{w32}
use mir.Val.{SFits, to_z, of_z}
use mir.Facts.{to_z-of_z}
use Rattle.shapes.specs.declared.PulseSet.{PulseSet}
use Rattle.shapes.specs.Sets.{set_a}
use Rattle.shapes.proofs.Sets.{by_set}
use Rattle.numbering.specs.Numbering.{pulses_of}
use Rattle.numbering.proofs.Counts.{pulses_append}
use Rattle.shape_numbers.specs.Pulses.{Shaped, rest_pulses}
use Rattle.pulse_length.specs.Length.{Sixteen, squared_length}
use Rattle.pulse_length.specs.Claims.{ShapedSixteen}

-- ---- the sum of the squares, beside the sum
joined : (a b c : ℕ) → a + (b + c) ≡ a + b + c
joined a b c = omega arith

pub squares_append : (v w : List ℤ) → squared_length (v ++ w) ≡ squared_length v + squared_length w
unfolding squared_length
squares_append [] w = sym (zero-add (squared_length w))
squares_append (y ∷ v) w = rw (squares_append v w) (joined (nat_abs y * nat_abs y) (squared_length v) (squared_length w))

-- the squares add up to at least the pulses
pub pulses_under : (v : List ℤ) → pulses_of v ≤ squared_length v
unfolding pulses_of squared_length
pulses_under [] = le_refl 0
pulses_under (y ∷ v) = both (nat_abs y) (nat_abs y * nat_abs y) (own (nat_abs y)) (pulses_under v)
  where
    own : (a : ℕ) → a ≤ a * a
    own zero = zero-le
    own (suc a) = omega (arith, mul-le-mul (le_refl (suc a)) (above a))
      where
        above : (a : ℕ) → 1 ≤ suc a
        above a = omega arith

    both : {c d : ℕ} (a b : ℕ) → a ≤ b → c ≤ d → a + c ≤ b + d
    both a b h k = omega arith

-- and to at most the pulses' square
squares_under : (v : List ℤ) → squared_length v ≤ pulses_of v * pulses_of v
unfolding pulses_of squared_length
squares_under [] = le_refl 0
squares_under (y ∷ v) = grown (nat_abs y) (pulses_of v) (squared_length v) (squares_under v)
  where
    grown : (a p s : ℕ) → s ≤ p * p → a * a + s ≤ (a + p) * (a + p)
    grown a p s h = omega arith

pub square_under : (v : List ℤ) (k : ℕ) → nat_abs (get_or v k (pos 0)) * nat_abs (get_or v k (pos 0)) ≤ squared_length v
unfolding squared_length
square_under [] k = le_refl 0
square_under (y ∷ v) zero = omega arith
square_under (y ∷ v) (suc k) = omega (arith, square_under v k)

-- ---- the shapes
module _ (shape : ℕ) (y : List ℤ) (h : Shaped shape y) where
  n : ℕ
  n = (set_a shape).dimension

  parted : (f : List ℤ → ℕ) → ((v w : List ℤ) → f (v ++ w) ≡ f v + f w) → f y ≡ f (take n y) + f (drop n y)
  unfolding n
  parted f e = ap f (sym (take-append-drop (set_a shape).dimension y)) ∙ e (take (set_a shape).dimension y) (drop (set_a shape).dimension y)

  -- set A's pulses and the rest's
  pub shape_pulses_lem : pulses_of y ≡ (set_a shape).pulses + rest_pulses shape
  unfolding n
  shape_pulses_lem = parted pulses_of pulses_append ∙ rw (h.first.pulses, h.rest.pulses)

  shape_places : length y ≡ 16
  unfolding n
  shape_places = parted length length-append ∙ rw (h.first.places, h.rest.places) (by shape)
    where
      by : (s : ℕ) → (set_a s).dimension + (16 - (set_a s).dimension) ≡ 16
      by = by_set (λ (p : PulseSet). p.dimension + (16 - p.dimension) ≡ 16) refl refl refl

  shape_squares : (1 ≤ squared_length y) × (squared_length y ≤ 101)
  unfolding n
  shape_squares =
      let t = take (set_a shape).dimension y in
      let r = drop (set_a shape).dimension y in
      let e : squared_length y ≡ squared_length t + squared_length r = parted squared_length squares_append in
      let low : (set_a shape).pulses + rest_pulses shape ≤ squared_length y = rw (sym shape_pulses_lem) (pulses_under y) in
      let first : squared_length t ≤ (set_a shape).pulses * (set_a shape).pulses = rw h.first.pulses at (squares_under t) in
      let rest : squared_length r ≤ rest_pulses shape * rest_pulses shape = rw h.rest.pulses at (squares_under r) in
      bounds shape (squared_length y) (squared_length t) (squared_length r) e low first rest
    where
      bounds : (s q a b : ℕ) → q ≡ a + b → (set_a s).pulses + rest_pulses s ≤ q → a ≤ (set_a s).pulses * (set_a s).pulses → b ≤ rest_pulses s * rest_pulses s → (1 ≤ q) × (q ≤ 101)
      bounds zero q a b e l f r = (omega arith, omega arith)
      bounds (suc zero) q a b e l f r = (omega arith, omega arith)
      bounds (suc (suc zero)) q a b e l f r = (omega arith, omega arith)
      bounds (suc (suc (suc s))) q a b e l f r = (omega arith, omega arith)

  sixteen : Sixteen y
  sixteen = record {
    places = shape_places;
    small = λ k l. small (nat_abs (get_or y k (pos 0))) (le_trans (square_under y k) shape_squares.1);
    above = shape_squares.0;
    below = shape_squares.1;
  }
    where
      -- a square of at most 101 is that of at most 10
      small : (a : ℕ) → a * a ≤ 101 → a ≤ 10
      small a s = go (ltb a 11) refl
        where
          go : (b : Bool) → ltb a 11 ≡ b → a ≤ 10
          go true e = omega (arith, ltb-true a 11 e)
          go false e = absurd (omega (arith, mul-le-mul (ltb-false a 11 e) (ltb-false a 11 e)))

pub shaped_sixteen : ShapedSixteen
shaped_sixteen shape y h = sixteen shape y h

-- ---- a small pulse as an i32
module _ (y : ℤ) (h : nat_abs y ≤ 10) where
  fits : (z : ℤ) → nat_abs z ≤ 100 → SFits w32 z
  fits (pos k) l = record { sfits = omega arith }
  fits (negsuc k) l = record { sfits = omega arith }

  pub plain : to_z w32 (of_z w32 y) ≡ y
  plain = to_z-of_z (fits y (le_trans h (lit≤ tt)))

  pub squared : y *ℤ y ≡ pos (nat_abs y * nat_abs y)
  squared = by y
    where
      by : (z : ℤ) → z *ℤ z ≡ pos (nat_abs z * nat_abs z)
      by (pos k) = refl
      by (negsuc k) = refl

  pub square_fits : SFits w32 (pos (nat_abs y * nat_abs y))
  square_fits = fits (pos (nat_abs y * nat_abs y)) (mul-le-mul h h)

  pub in_float_lem : T (in_float binary32 y)
  unfolding in_float
  in_float_lem = by y h
    where
      by : (z : ℤ) → nat_abs z ≤ 10 → T (in_float binary32 z)
      by (pos k) l = le→leb k (2 ^ 24) (le_trans l (lit≤ tt))
      by (negsuc k) l = lt→ltb k (2 ^ 24) (le_trans l (lit≤ tt))

-- ---- the sum of the squares, place by place
-- the squares from k on: the one at k, and the others
pub squares_at : (y : List ℤ) (k : ℕ) → k < length y → squared_length (drop k y) ≡ nat_abs (get_or y k (pos 0)) * nat_abs (get_or y k (pos 0)) + squared_length (drop (k + 1) y)
unfolding squared_length
squares_at y k h = rw (drop-cons y k (pos 0) h, add-one)

pub squares_end : (y : List ℤ) (k : ℕ) → length y ≤ k → squared_length (drop k y) ≡ 0
unfolding squared_length
squares_end y k h = rw (drop_of_length-le y h)

-- ---- the pulse at k, as it is read
module _ (y : List ℤ) (h : Sixteen y) (k : ℕ) (l : k < 16) where
  pub element : to_z w32 (of_z w32 (get_or y k (pos 0))) ≡ get_or y k (pos 0)
  element = plain (get_or y k (pos 0)) (h.small k l)

  pub element_small : nat_abs (to_z w32 (of_z w32 (get_or y k (pos 0)))) ≤ 10
  element_small = rw element (h.small k l)

  -- its square goes over from the squares that are left to the sum
  pub squares_turn : (sum r : ℕ) → r ≡ nat_abs (to_z w32 (of_z w32 (get_or y k (pos 0)))) * nat_abs (to_z w32 (of_z w32 (get_or y k (pos 0)))) → sum + squared_length (drop k y) ≡ squared_length y
      → sum + r + squared_length (drop (k + 1) y) ≡ squared_length y
  squares_turn sum r e p = joined_back sum r (squared_length (drop (k + 1) y)) ∙ ap (λ (s : ℕ). sum + s) (sym (rw (e, element) (squares_at y k (rw h.places l)))) ∙ p
    where
      joined_back : (a b c : ℕ) → a + b + c ≡ a + (b + c)
      joined_back a b c = omega arith
