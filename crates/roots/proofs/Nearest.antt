-- Each root of the table is the nearest f32: one computed test, of its midpoints with the f32s next to it, and what that says of every other f32. Assumes nothing.
use mathlib.Core.Path.{◌≡◌, refl, sym, ap, ap₂, ◌∙◌, subst}
use mathlib.Core.Logic.{inl, inr}
use mathlib.Core.Bool.{Bool, ◌||◌}
use Prim.Native.Nat.{ℕ, ◌+◌, ◌-◌, ◌*◌, ◌/◌, ◌%◌, ◌^◌, ◌<◌, ◌≤◌, zero-le}
use native.Mathlib.Nat.{le_trans, le_of_eq, lt_of_lt_of_le, lt_of_le_of_lt, mul_assoc, mul_right_comm, mul-mul-mul_comm, add-mul, le_of_lt, mul-le-mul, mul-le-mul_right, mul-le-mul_left, mul-lt-mul_of_pos_right, lt_of_mul-lt-mul_right, mul-pos}
use native.Mathlib.Omega.{arith}
use lib.Pow.{pow_pos}
use lib.Dec.{T, ltb, eqb, ltb→lt, eqb→eq, lit<}
use lib.ListN.{length, get_or}
use lib.Ieee.{Float, nan, inf, fin, binary32, of_bits, fits, lt}
use lib.Ieee.Fits.{down_pos}
use lib.Ieee.Bits.{of_bits-fits}
use Rattle.float_laws.proofs.Logic.{or_split}
use Rattle.float_laws.specs.Fraction.{numerator, denominator, positive}
use Rattle.list_laws.specs.Every.{both, every_from}
use Rattle.list_laws.proofs.Every.{both_left, both_right, at_place}
use Rattle.roots.specs.Root.{joint, over, Below, Above, Nearest, root_bits, root_of}
use Rattle.roots.specs.Claims.{RootNearest}
use Rattle.roots.proofs.Gaps.{Placed, units, scaled_under, cross, next_below, next_above}

denominator_pos : (x : Float) → 0 < denominator x
denominator_pos nan = lit< tt
denominator_pos (inf s) = lit< tt
denominator_pos (fin s m e) = down_pos e

-- ---- squares: a / w against the root of n, by c / q
module _ (a w c q n : ℕ) (Q : 0 < q) (W : 0 < w) where
  squared : a * q * (a * q) ≡ a * a * (q * q)
  squared = mul-mul-mul_comm a q a q

  root_squared : 4 * n * (q * q) * (w * w) ≡ 4 * n * (w * w) * (q * q)
  root_squared = mul_right_comm (4 * n) (q * q) (w * w)

  under_root : a * q ≤ c * w → c * c < 4 * n * (q * q) → a * a < 4 * n * (w * w)
  under_root h k =
      lt_of_mul-lt-mul_right (q * q)
      (lt_of_le_of_lt (le_trans (le_of_eq (sym squared)) (le_trans (mul-le-mul h h) (le_of_eq (mul-mul-mul_comm c w c w))))
      (lt_of_lt_of_le (mul-lt-mul_of_pos_right k (mul-pos W W)) (le_of_eq root_squared)))

  under_exact : a * q < c * w → c * c ≡ 4 * n * (q * q) → a * a < 4 * n * (w * w)
  under_exact h k =
      lt_of_mul-lt-mul_right (q * q)
      (lt_of_le_of_lt (le_of_eq (sym squared))
      (lt_of_lt_of_le (strict (a * q) (c * w) h)
      (le_of_eq (mul-mul-mul_comm c w c w ∙ ap (λ (i : ℕ). i * (w * w)) k ∙ root_squared))))
    where
      strict : (i k : ℕ) → i < k → i * i < k * k
      strict i k l = lt_of_le_of_lt (mul-le-mul_left i (le_of_lt l)) (mul-lt-mul_of_pos_right l (lt_of_le_of_lt zero-le l))

  over_root : c * w ≤ a * q → 4 * n * (q * q) < c * c → 4 * n * (w * w) < a * a
  over_root h k =
      lt_of_mul-lt-mul_right (q * q)
      (lt_of_le_of_lt (le_of_eq (sym root_squared))
      (lt_of_lt_of_le (mul-lt-mul_of_pos_right k (mul-pos W W))
      (le_trans (le_of_eq (sym (mul-mul-mul_comm c w c w))) (le_trans (mul-le-mul h h) (le_of_eq squared)))))

add_same : (c : ℕ) {a b : ℕ} → a ≤ b → a + c ≤ b + c
add_same c h = omega arith

-- ---- twice the midpoint of x and r = w / 2 ^ j, in units of 2 ^ -j
module _ (w j : ℕ) (r : Float) (p : Placed w j r) (x : Float) where
  joint_units : joint x r * 2 ^ j ≡ numerator x * 2 ^ j * denominator r + w * over x r
  joint_units =
      add-mul (numerator x * denominator r) (numerator r * denominator x) (2 ^ j)
      ∙ ap₂ (λ (a b : ℕ). a + b) (mul_right_comm (numerator x) (denominator r) (2 ^ j)) (units w j r p (denominator x) ∙ mul_assoc w (denominator x) (denominator r))

  joint_under : numerator x * 2 ^ j ≤ (w - 1) * denominator x → 1 ≤ w → joint x r * 2 ^ j ≤ (2 * w - 1) * over x r
  joint_under h k =
      le_trans (le_of_eq joint_units)
      (le_trans (add_same (w * over x r) (le_trans (mul-le-mul_right (denominator r) h) (le_of_eq (mul_assoc (w - 1) (denominator x) (denominator r)))))
      (le_of_eq (sym (add-mul (w - 1) w (over x r)) ∙ ap (λ (i : ℕ). i * over x r) (twice k))))
    where
      twice : 1 ≤ w → w - 1 + w ≡ 2 * w - 1
      twice l = omega arith

  joint_over : (w + 1) * denominator x ≤ numerator x * 2 ^ j → (2 * w + 1) * over x r ≤ joint x r * 2 ^ j
  joint_over h =
      le_trans (le_of_eq (ap (λ (i : ℕ). i * over x r) twice ∙ add-mul (w + 1) w (over x r)))
      (le_trans (add_same (w * over x r) (le_trans (le_of_eq (sym (mul_assoc (w + 1) (denominator x) (denominator r)))) (mul-le-mul_right (denominator r) h))) (le_of_eq (sym joint_units)))
    where
      twice : 2 * w + 1 ≡ w + 1 + w
      twice = omega arith

  joint_strict : numerator x * denominator r < numerator r * denominator x → joint x r * 2 ^ j < 2 * w * over x r
  joint_strict h =
      lt_of_le_of_lt (le_of_eq joint_units)
      (lt_of_lt_of_le (more (numerator x * 2 ^ j * denominator r) (mul-lt-mul_of_pos_right (scaled_under w j r p (numerator x) (denominator x) h) (denominator_pos r)))
      (le_of_eq (ap (λ (i : ℕ). i + w * over x r) (mul_assoc w (denominator x) (denominator r)) ∙ sym (add-mul w w (over x r)) ∙ ap (λ (i : ℕ). i * over x r) twice)))
    where
      more : (a : ℕ) {b : ℕ} → a < b → a + w * over x r < b + w * over x r
      more a l = omega arith

      twice : w + w ≡ 2 * w
      twice = omega arith

-- ---- the test of a pattern: the root of n lies between w / 2 ^ j's midpoints with (w - 1) / 2 ^ j and (w + 1) / 2 ^ j, or is w / 2 ^ j itself
significand : ℕ → ℕ
significand bits = 8388608 + bits % 8388608

places : ℕ → ℕ
places bits = 150 - bits / 8388608

placedb : ℕ → Bool
placedb bits = both (positive (of_bits binary32 bits)) (eqb (numerator (of_bits binary32 bits) * 2 ^ places bits) (significand bits * denominator (of_bits binary32 bits)))

lowb : ℕ → ℕ → ℕ → Bool
lowb n w q = both (ltb 8388608 w) (ltb ((2 * w - 1) * (2 * w - 1)) (4 * n * (q * q))) || eqb (2 * w * (2 * w)) (4 * n * (q * q))

highb : ℕ → ℕ → ℕ → Bool
highb n w q = ltb (4 * n * (q * q)) ((2 * w + 1) * (2 * w + 1))

between : ℕ → ℕ → Bool
between n bits = both (placedb bits) (both (lowb n (significand bits) (2 ^ places bits)) (highb n (significand bits) (2 ^ places bits)))

-- THE TEST
all_between : T (every_from (λ i b. between (i + 1) b) 0 root_bits)
unfolding root_bits between placedb lowb highb significand places of_bits
all_between = tt

-- ---- what it says of every other f32
module _ (n w j : ℕ) (r : Float) (p : Placed w j r) where
  low_mid : T (lowb n w (2 ^ j)) → (x : Float) → T (fits binary32 x) → T (positive x) → T (lt x r) → Below x r n
  unfolding lowb
  low_mid t x f q h =
      elim (or_split (both (ltb 8388608 w) (ltb ((2 * w - 1) * (2 * w - 1)) (4 * n * (2 ^ j * 2 ^ j)))) (eqb (2 * w * (2 * w)) (4 * n * (2 ^ j * 2 ^ j))) t) [
        | inl u ↦
            let l : 2 ^ 23 < w = ltb→lt 8388608 w (both_left (ltb 8388608 w) (ltb ((2 * w - 1) * (2 * w - 1)) (4 * n * (2 ^ j * 2 ^ j))) u) in
            under_root (joint x r) (over x r) (2 * w - 1) (2 ^ j) n (pow_pos j) (mul-pos (denominator_pos x) (denominator_pos r))
            (joint_under w j r p x (next_below w j r p x f q l h) (one w l))
            (ltb→lt ((2 * w - 1) * (2 * w - 1)) (4 * n * (2 ^ j * 2 ^ j)) (both_right (ltb 8388608 w) (ltb ((2 * w - 1) * (2 * w - 1)) (4 * n * (2 ^ j * 2 ^ j))) u))
        | inr u ↦
            under_exact (joint x r) (over x r) (2 * w) (2 ^ j) n (pow_pos j) (mul-pos (denominator_pos x) (denominator_pos r))
            (joint_strict w j r p x (cross x r q p.plus h)) (eqb→eq (2 * w * (2 * w)) (4 * n * (2 ^ j * 2 ^ j)) u)
      ]
    where
      one : (a : ℕ) → 8388608 < a → 1 ≤ a
      one a l = omega arith

  high_mid : T (highb n w (2 ^ j)) → (x : Float) → T (fits binary32 x) → T (positive x) → T (lt r x) → Above x r n
  unfolding highb
  high_mid t x f q h =
      over_root (joint x r) (over x r) (2 * w + 1) (2 ^ j) n (pow_pos j) (mul-pos (denominator_pos x) (denominator_pos r))
      (joint_over w j r p x (next_above w j r p x f q h)) (ltb→lt (4 * n * (2 ^ j * 2 ^ j)) ((2 * w + 1) * (2 * w + 1)) t)

nearest : (n bits : ℕ) → T (between n bits) → Nearest n (of_bits binary32 bits)
unfolding between placedb significand
nearest n bits t =
    let r = of_bits binary32 bits in
    let w = significand bits in
    let j = places bits in
    let own = both_left (placedb bits) (both (lowb n w (2 ^ j)) (highb n w (2 ^ j))) t in
    let mids = both_right (placedb bits) (both (lowb n w (2 ^ j)) (highb n w (2 ^ j))) t in
    let plus = both_left (positive r) (eqb (numerator r * 2 ^ j) (w * denominator r)) own in
    let p : Placed w j r = record {
      value = eqb→eq (numerator r * 2 ^ j) (w * denominator r) (both_right (positive r) (eqb (numerator r * 2 ^ j) (w * denominator r)) own);
      large = large (bits % 8388608);
      plus = plus;
    } in
    record {
      held = of_bits-fits binary32 bits;
      plus = plus;
      below = low_mid n w j r p (both_left (lowb n w (2 ^ j)) (highb n w (2 ^ j)) mids);
      above = high_mid n w j r p (both_right (lowb n w (2 ^ j)) (highb n w (2 ^ j)) mids);
    }
  where
    large : (a : ℕ) → 2 ^ 23 ≤ 8388608 + a
    large a = omega arith

pub roots_count : length root_bits ≡ 101
unfolding root_bits
roots_count = refl

pub root_nearest : RootNearest
unfolding root_of
root_nearest n h k =
    nearest n (get_or root_bits (n - 1) 2143289344)
    (subst (λ (m : ℕ). T (between m (get_or root_bits (n - 1) 2143289344))) (back n h)
    (at_place 2143289344 (λ i b. between (i + 1) b) root_bits all_between (n - 1) (rw roots_count (inside n h k))))
  where
    back : (n : ℕ) → 1 ≤ n → n - 1 + 1 ≡ n
    back n h = omega arith

    inside : (n : ℕ) → 1 ≤ n → n ≤ 101 → n - 1 < 101
    inside n h k = omega arith
