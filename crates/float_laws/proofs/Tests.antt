-- From a comparison in the code to a bound on a size, and back to a comparison. Assumes nothing.
use mathlib.Core.Path.{◌≡◌, sym, ◌∙◌}
use mathlib.Core.Logic.{inl, inr}
use Prim.Native.Nat.{ℕ, ◌+◌, ◌*◌, ◌≤◌, ◌<◌, zero-le}
use native.Mathlib.Nat.{eq-or-lt_of_le, le_of_eq, lt_of_le_of_lt, lt_of_lt_of_le, mul_right_comm, mul-lt-mul_of_pos_right, mul-le-mul_right, lt_of_mul-lt-mul_right}
use native.Mathlib.Omega.{arith}
use mathlib.Core.Bool.{true, false, not, ◌&&◌, ◌||◌, false≢true}
use lib.IntN.{ℤ}
use lib.Dec.{T, ltb, eqb, lt→ltb}
use lib.Ieee.{Float, nan, inf, fin, up, down, lt, le, eq, ne, is_nan}
use lib.Ieee.Compare.{nan_differs}
use lib.Ieee.Fits.{down_pos, and_i, eq→eqb}
use Rattle.float_laws.specs.Size.{Within}
use Rattle.float_laws.proofs.Logic.{or_left, or_right, lt_or_eq, gt_or_eq}

-- a value that equals itself is no NaN
pub same_no_nan : (x : Float) → ne x x ≡ false → T (not (is_nan x))
unfolding is_nan
same_no_nan nan e = absurd (false≢true (sym e ∙ nan_differs))
same_no_nan (inf s) e = tt
same_no_nan (fin s m e) h = tt

-- -b ≤ x ≤ b, for a finite b: x is at most b in size. A NaN fails both tests
pub tests_within : (x : Float) (m : ℕ) (e : ℤ) → T (le (fin true m e) x) → T (le x (fin false m e)) → Within x (m * up e) (down e)
unfolding le
tests_within nan m e h k = absurd k
tests_within (inf true) m e h k = absurd h
tests_within (inf false) m e h k = absurd k
tests_within (fin true n d) m e h k = gt_or_eq (m * up e * down d) (n * up d * down e) true h
tests_within (fin false n d) m e h k = lt_or_eq (n * up d * down e) (m * up e * down d) true k

-- ---- and back: a size of at most b passes both tests
level_pair : (a b : ℕ) → a ≤ b → T (ltb a b || (eqb a b && true))
level_pair a b h =
    elim (eq-or-lt_of_le h) [
      | inl e ↦ or_right (ltb a b) _ (and_i (eqb a b) true (eq→eqb e) tt)
      | inr l ↦ or_left (ltb a b) _ (lt→ltb a b l)
    ]

level_pair' : (a b : ℕ) → a ≤ b → T (ltb a b || (eqb b a && true))
level_pair' a b h =
    elim (eq-or-lt_of_le h) [
      | inl e ↦ or_right (ltb a b) _ (and_i (eqb b a) true (eq→eqb (sym e)) tt)
      | inr l ↦ or_left (ltb a b) _ (lt→ltb a b l)
    ]

-- of two numbers with unlike signs the negative one is below, or both are zero
unlike_pair : (a b : ℕ) → T (ltb 0 (a + b) || (eqb a b && (false || eqb a 0)))
unlike_pair a b =
    elim (eq-or-lt_of_le {n = 0} {m = a + b} zero-le) [
      | inl e ↦ or_right (ltb 0 (a + b)) _ (and_i (eqb a b) _ (eq→eqb (first a b e)) (eq→eqb (second a b e)))
      | inr l ↦ or_left (ltb 0 (a + b)) _ (lt→ltb 0 (a + b) l)
    ]
  where
    first : (a b : ℕ) → 0 ≡ a + b → a ≡ b
    first a b e = omega arith

    second : (a b : ℕ) → 0 ≡ a + b → a ≡ 0
    second a b e = omega arith

pub within_tests : (x : Float) (m : ℕ) (e : ℤ) → Within x (m * up e) (down e) → T (le (fin true m e) x) × T (le x (fin false m e))
unfolding le lt eq
within_tests nan m e w = absurd w
within_tests (inf s) m e w = absurd w
within_tests (fin true n d) m e w = (level_pair' (n * up d * down e) (m * up e * down d) w, unlike_pair (n * up d * down e) (m * up e * down d))
within_tests (fin false n d) m e w = (unlike_pair (m * up e * down d) (n * up d * down e), level_pair (n * up d * down e) (m * up e * down d) w)

-- |x| ≤ a / c < m * 2 ^ e
strict : (x a y p c q : ℕ) → 0 < q → x * c ≤ a * p → 0 < p → a * q < y * c → x * q < y * p
strict x a y p c q Q h P k =
    lt_of_mul-lt-mul_right c
    (lt_of_le_of_lt (le_of_eq (mul_right_comm x q c))
    (lt_of_le_of_lt (mul-le-mul_right q h)
    (lt_of_le_of_lt (le_of_eq (mul_right_comm a p q)) (lt_of_lt_of_le (mul-lt-mul_of_pos_right k P) (le_of_eq (mul_right_comm y c p))))))

grow : (a b : ℕ) → a < b → 0 < a + b
grow a b h = omega arith

grow' : (a b : ℕ) → a < b → 0 < b + a
grow' a b h = omega arith

module _ (m : ℕ) (e : ℤ) (a c : ℕ) (h : a * down e < m * up e * c) where
  pub within_lt : (x : Float) → Within x a c → T (lt x (fin false m e))
  unfolding lt
  within_lt nan w = absurd w
  within_lt (inf s) w = absurd w
  within_lt (fin true n d) w =
      lt→ltb 0 (n * up d * down e + m * up e * down d) (grow (n * up d * down e) (m * up e * down d) (strict (n * up d) a (m * up e) (down d) c (down e) (down_pos e) w (down_pos d) h))
  within_lt (fin false n d) w = lt→ltb (n * up d * down e) (m * up e * down d) (strict (n * up d) a (m * up e) (down d) c (down e) (down_pos e) w (down_pos d) h)

  pub within_gt : (x : Float) → Within x a c → T (lt (fin true m e) x)
  unfolding lt
  within_gt nan w = absurd w
  within_gt (inf s) w = absurd w
  within_gt (fin true n d) w = lt→ltb (n * up d * down e) (m * up e * down d) (strict (n * up d) a (m * up e) (down d) c (down e) (down_pos e) w (down_pos d) h)
  within_gt (fin false n d) w =
      lt→ltb 0 (m * up e * down d + n * up d * down e) (grow' (n * up d * down e) (m * up e * down d) (strict (n * up d) a (m * up e) (down d) c (down e) (down_pos e) w (down_pos d) h))

pub le_of_lt_float : (x y : Float) → T (lt x y) → T (le x y)
unfolding le
le_of_lt_float x y h = or_left (lt x y) _ h
