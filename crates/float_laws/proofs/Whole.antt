-- A whole number as a float: its size, its sign, and that sums, differences and products of whole numbers are exact. Assumes nothing.
use mathlib.Core.Path.{◌≡◌, refl, sym, ap, ◌∙◌, subst}
use mathlib.Core.Bool.{Bool, true, false, cond}
use Prim.Native.Nat.{ℕ, zero, suc, ◌+◌, ◌-◌, ◌*◌, ◌^◌, ◌≤◌}
use native.Mathlib.Nat.{le_trans, le_of_eq, mul-one, mul_comm, mul_assoc, mul-pos, add-mul, mul-sub, mul-mul-mul_comm, mul-le-mul_right}
use native.Mathlib.Omega.{arith}
use borrow.Author.Tests.{le-ltb}
use lib.Dec.{T, ltb, lit<}
use lib.IntN.{ℤ, pos, negsuc, nat_abs}
use lib.Ieee.{Float, nan, inf, fin, Format, prec, emax, low, up, down, odd, units, round, neg, sum, add, sub, mul, le, of_int}
use lib.Ieee.Fits.{down_pos, round_is}
use lib.Ieee.Exact.{HasValue}
use lib.Ieee.Back.{round_whole}
use lib.Ieee.Order.{round_mono}
use lib.Ieee.Scale.{round_same}
use Rattle.float_laws.specs.Size.{Within}
use Rattle.float_laws.proofs.Size.{whole_exact, round_within}

pub int_within : (f : Format) (z : ℤ) → nat_abs z ≤ 2 ^ prec f → Within (of_int f z) (nat_abs z) 1
unfolding of_int
int_within f (pos n) h = round_within f false n 1 n 1 (lit< tt) (lit< tt) (whole_exact f n h) (le_of_eq refl)
int_within f (negsuc n) h = round_within f true (suc n) 1 (suc n) 1 (lit< tt) (lit< tt) (whole_exact f (suc n) h) (le_of_eq refl)

-- ---- a number below zero is its size, negated
odd_neg : (d q k l : ℕ) → neg (odd d false q k l) ≡ odd d true q k l
unfolding odd neg
odd_neg d zero k l = refl
odd_neg d (suc q) k l = refl

cond_neg : (b : Bool) (x y : Float) → neg x ≡ y → neg (cond b x (inf false)) ≡ cond b y (inf true)
unfolding neg
cond_neg true x y e = e
cond_neg false x y e = refl

units_neg : (f : Format) (q k : ℕ) → neg (units f false q k) ≡ units f true q k
unfolding units
units_neg f q k = cond_neg (ltb (q * 2 ^ k) (2 ^ (low f + suc (emax f)))) (odd (suc (prec f)) false q k (low f)) (odd (suc (prec f)) true q k (low f)) (odd_neg (suc (prec f)) q k (low f))

pub round_neg : (f : Format) (num den : ℕ) → neg (round f false num den) ≡ round f true num den
round_neg f num den = ap neg (round_is f false num den) ∙ units_neg f _ _ ∙ sym (round_is f true num den)

pub int_neg : (f : Format) (k : ℕ) → neg (of_int f (pos (suc k))) ≡ of_int f (negsuc k)
unfolding of_int
int_neg f k = round_neg f (suc k) 1

-- ---- whole numbers are added, subtracted and multiplied exactly
clash : true ≡ false → ⊥
clash e = subst T e tt

-- p / de = a and q / dd = b, over one denominator
left_part : (p de dd a : ℕ) → p * 1 ≡ a * de → p * dd ≡ a * (de * dd)
left_part p de dd a v = ap (λ (z : ℕ). z * dd) (sym (mul-one p) ∙ v) ∙ mul_assoc a de dd

right_part : (q de dd b : ℕ) → q * 1 ≡ b * dd → q * de ≡ b * (de * dd)
right_part q de dd b w = left_part q dd de b w ∙ ap (λ (z : ℕ). b * z) (mul_comm dd de)

values_add : (f : Format) (x y : Float) (a b : ℕ) → HasValue x false a 1 → HasValue y false b 1 → add f x y ≡ round f false (a + b) 1
unfolding add
values_add f nan y a b v w = absurd v
values_add f (inf s) y a b v w = absurd v
values_add f (fin s m e) nan a b v w = absurd w
values_add f (fin s m e) (inf t) a b v w = absurd w
values_add f (fin true m e) (fin t n d) a b v w = absurd (clash v.0)
values_add f (fin false m e) (fin true n d) a b v w = absurd (clash w.0)
values_add f (fin false m e) (fin false n d) a b v w =
    unfold sum in
    round_same f false (m * up e * down d + n * up d * down e) (down e * down d) (a + b) 1 (mul-pos (down_pos e) (down_pos d)) (lit< tt)
    (mul-one _ ∙ both (left_part (m * up e) (down e) (down d) a v.1) (right_part (n * up d) (down e) (down d) b w.1) ∙ sym (add-mul a b (down e * down d)))
  where
    both : {i j k l : ℕ} → i ≡ j → k ≡ l → i + k ≡ j + l
    both g h = omega arith

-- ±a / c + ∓b / c, for a b that is not above a
sum_apart : (f : Format) (a b c : ℕ) → b ≤ a → sum f false a true b c ≡ round f false (a - b) c
unfolding sum
sum_apart f a b c h = ap (λ (t : Bool). cond t (round f true (b - a) c) (round f false (a - b) c)) (le-ltb a b h)

values_sub : (f : Format) (x y : Float) (a b : ℕ) → b ≤ a → HasValue x false a 1 → HasValue y false b 1 → sub f x y ≡ round f false (a - b) 1
unfolding sub add neg
values_sub f nan y a b l v w = absurd v
values_sub f (inf s) y a b l v w = absurd v
values_sub f (fin s m e) nan a b l v w = absurd w
values_sub f (fin s m e) (inf t) a b l v w = absurd w
values_sub f (fin true m e) (fin t n d) a b l v w = absurd (clash v.0)
values_sub f (fin false m e) (fin true n d) a b l v w = absurd (clash w.0)
values_sub f (fin false m e) (fin false n d) a b l v w =
    let c = down e * down d in
    let p : m * up e * down d ≡ a * c = left_part (m * up e) (down e) (down d) a v.1 in
    let q : n * up d * down e ≡ b * c = right_part (n * up d) (down e) (down d) b w.1 in
    sum_apart f (m * up e * down d) (n * up d * down e) c (le_trans (le_of_eq q) (le_trans (mul-le-mul_right c l) (le_of_eq (sym p))))
    ∙ round_same f false (m * up e * down d - n * up d * down e) c (a - b) 1 (mul-pos (down_pos e) (down_pos d)) (lit< tt)
    (mul-one _ ∙ apart (p ∙ mul_comm a c) (q ∙ mul_comm b c) ∙ sym (mul-sub c a b) ∙ mul_comm c (a - b))
  where
    apart : {i j k l : ℕ} → i ≡ j → k ≡ l → i - k ≡ j - l
    apart g h = omega arith

values_mul : (f : Format) (x y : Float) (a b : ℕ) → HasValue x false a 1 → HasValue y false b 1 → mul f x y ≡ round f false (a * b) 1
unfolding mul
values_mul f nan y a b v w = absurd v
values_mul f (inf s) y a b v w = absurd v
values_mul f (fin s m e) nan a b v w = absurd w
values_mul f (fin s m e) (inf t) a b v w = absurd w
values_mul f (fin true m e) (fin t n d) a b v w = absurd (clash v.0)
values_mul f (fin false m e) (fin true n d) a b v w = absurd (clash w.0)
values_mul f (fin false m e) (fin false n d) a b v w =
    round_same f false (m * up e * (n * up d)) (down e * down d) (a * b) 1 (mul-pos (down_pos e) (down_pos d)) (lit< tt)
    (mul-one _ ∙ both (sym (mul-one (m * up e)) ∙ v.1) (sym (mul-one (n * up d)) ∙ w.1) ∙ mul-mul-mul_comm a (down e) b (down d))
  where
    both : {i j k l : ℕ} → i ≡ j → k ≡ l → i * k ≡ j * l
    both {j = j} {k = k} g h = ap (λ (z : ℕ). z * k) g ∙ ap (λ (z : ℕ). j * z) h

module _ (f : Format) (a b : ℕ) where
  pub whole_add : a ≤ 2 ^ prec f → b ≤ 2 ^ prec f → add f (of_int f (pos a)) (of_int f (pos b)) ≡ of_int f (pos (a + b))
  unfolding of_int
  whole_add h k = values_add f (round f false a 1) (round f false b 1) a b (round_whole f false a h) (round_whole f false b k)

  pub whole_sub : a ≤ 2 ^ prec f → b ≤ a → sub f (of_int f (pos a)) (of_int f (pos b)) ≡ of_int f (pos (a - b))
  unfolding of_int
  whole_sub h k = values_sub f (round f false a 1) (round f false b 1) a b k (round_whole f false a h) (round_whole f false b (le_trans k h))

  pub whole_mul : a ≤ 2 ^ prec f → b ≤ 2 ^ prec f → mul f (of_int f (pos a)) (of_int f (pos b)) ≡ of_int f (pos (a * b))
  unfolding of_int
  whole_mul h k = values_mul f (round f false a 1) (round f false b 1) a b (round_whole f false a h) (round_whole f false b k)

  pub whole_le : a ≤ b → T (le (of_int f (pos a)) (of_int f (pos b)))
  unfolding of_int
  whole_le h = round_mono f a 1 b 1 (lit< tt) (lit< tt) (mul-le-mul_right 1 h)
