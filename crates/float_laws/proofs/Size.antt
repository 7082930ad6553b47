-- A bound on a size goes through rounding: where the exact result is at most g / h in size, and the format holds g / h, the rounded result is at most g / h too.
-- So no error piles up over a chain of operations. Assumes nothing.
use mathlib.Core.Path.{◌≡◌, sym, ap, ◌∙◌, subst}
use Prim.Native.Nat.{ℕ, zero, suc, ◌+◌, ◌-◌, ◌*◌, ◌^◌, ◌≤◌, ◌<◌}
use native.Mathlib.Nat.{le_trans, le_of_eq, mul_comm, mul_assoc, mul_right_comm, mul-le-mul, mul-le-mul_right, mul-pos, add-mul, mul-mul-mul_comm}
use native.Mathlib.Omega.{arith}
use mathlib.Core.Bool.{Bool, true, false, ◌&&◌, beq, cond}
use mathlib.Core.List.{List}
use lib.Dec.{T, ltb, leb→le, eqb→eq}
use lib.ListN.{get_or}
use lib.Ieee.{Float, nan, inf, fin, Format, prec, emax, low, up, down, unlike, odd, units, round, neg, sum, add, sub, mul, le}
use lib.Ieee.Fits.{down_pos, round_is, eq→eqb}
use lib.Ieee.Exact.{HasValue}
use lib.Ieee.Back.{round_whole}
use lib.Ieee.Order.{round_mono}
use lib.Ieee.Positive.{through}
use Rattle.float_laws.specs.Size.{Within, withinb, AtLeast, at_leastb, sized, exact}
use Rattle.float_laws.specs.Kind.{finite, plain}
use Rattle.float_laws.specs.Bounded.{AllFinite, Bounded}
use Rattle.float_laws.proofs.Logic.{lt_or_eq}
use Rattle.float_laws.proofs.NoNan.{round_plain}

pub within_test : (a c : ℕ) (x : Float) → T (withinb a c x) → Within x a c
within_test a c nan t = t
within_test a c (inf s) t = absurd t
within_test a c (fin s m e) t = leb→le (m * up e * c) (a * down e) t

pub at_least_test : (a c : ℕ) (x : Float) → T (at_leastb a c x) → AtLeast x a c
at_least_test a c nan t = t
at_least_test a c (inf s) t = absurd t
at_least_test a c (fin true m e) t = absurd t
at_least_test a c (fin false m e) t = leb→le (a * down e) (m * up e * c) t

pub within_finite : (x : Float) (a c : ℕ) → Within x a c → T (finite x)
within_finite nan a c h = absurd h
within_finite (inf s) a c h = absurd h
within_finite (fin s m e) a c h = tt

pub bounded_finite : (k limit : ℕ) (xs : List Float) → Bounded k limit xs → AllFinite k xs
bounded_finite k limit xs h n l = within_finite (get_or xs n nan) limit 1 (h n l)

-- a larger bound
pub within_up : (x : Float) (a c g h : ℕ) → 0 < c → a * h ≤ g * c → Within x a c → Within x g h
within_up nan a c g h C l w = w
within_up (inf s) a c g h C l w = w
within_up (fin s m e) a c g h C l w = through (m * up e) a g (down e) c h C w l

-- every whole number up to 2 ^ prec is exact
sized_of : (x : Float) (n c : ℕ) → HasValue x false n c → T (sized x n c)
sized_of nan n c h = h
sized_of (inf s) n c h = absurd h
sized_of (fin s m e) n c h = eq→eqb h.1

pub whole_exact : (f : Format) (n : ℕ) → n ≤ 2 ^ prec f → T (exact f n 1)
whole_exact f n h = sized_of (round f false n 1) n 1 (round_whole f false n h)

-- ---- `round`: the sign does not matter to the size
odd_size : (d : ℕ) (s : Bool) (q k l a c : ℕ) → Within (odd d false q k l) a c → Within (odd d s q k l) a c
unfolding odd
odd_size d s zero k l a c h = h
odd_size d s (suc q) k l a c h = h

cond_size : (b s : Bool) (x y : Float) (a c : ℕ) → (Within x a c → Within y a c) → Within (cond b x (inf false)) a c → Within (cond b y (inf s)) a c
cond_size true s x y a c k h = k h
cond_size false s x y a c k h = absurd h

units_size : (f : Format) (s : Bool) (q k a c : ℕ) → Within (units f false q k) a c → Within (units f s q k) a c
unfolding units
units_size f s q k a c =
    cond_size (ltb (q * 2 ^ k) (2 ^ (low f + suc (emax f)))) s (odd (suc (prec f)) false q k (low f)) (odd (suc (prec f)) s q k (low f)) a c
    (odd_size (suc (prec f)) s q k (low f) a c)

round_size : (f : Format) (s : Bool) (num den a c : ℕ) → Within (round f false num den) a c → Within (round f s num den) a c
round_size f s num den a c h =
    subst (λ (x : Float). Within x a c) (sym (round_is f s num den))
    (units_size f s _ _ a c (subst (λ (x : Float). Within x a c) (round_is f false num den) h))

-- x ≤ y, and neither has the sign minus
under : (x y : Float) (a c : ℕ) → T (plain x) → T (plain y) → T (le x y) → T (sized y a c) → Within x a c
unfolding le
under nan y a c p q h k = absurd p
under (inf true) y a c p q h k = absurd p
under (inf false) nan a c p q h k = absurd q
under (inf false) (inf t) a c p q h k = absurd k
under (inf false) (fin t n d) a c p q h k = absurd h
under (fin true m e) y a c p q h k = absurd p
under (fin false m e) nan a c p q h k = absurd q
under (fin false m e) (inf t) a c p q h k = absurd k
under (fin false m e) (fin true n d) a c p q h k = absurd q
under (fin false m e) (fin false n d) a c p q h k =
    through (m * up e) (n * up d) a (down e) (down d) c (down_pos d) (lt_or_eq (m * up e * down d) (n * up d * down e) true h)
    (le_of_eq (eqb→eq (n * up d * c) (a * down d) k))

-- ---- THE LAW: num / den ≤ g / h, and the format holds g / h
pub round_within : (f : Format) (s : Bool) (num den g h : ℕ) → 0 < den → 0 < h → T (exact f g h) → num * h ≤ g * den → Within (round f s num den) g h
round_within f s num den g h D H x l =
    round_size f s num den g h
    (under (round f false num den) (round f false g h) g h (round_plain f num den) (round_plain f g h) (round_mono f num den g h D H l) x)

-- ---- the operations
pub mul_within : (f : Format) (x y : Float) (a c b d g h : ℕ) → 0 < c → 0 < d → 0 < h → T (exact f g h) → a * b * h ≤ g * (c * d) → Within x a c → Within y b d → Within (mul f x y) g h
unfolding mul
mul_within f nan y a c b d g h C D H x l v w = absurd v
mul_within f (inf s) y a c b d g h C D H x l v w = absurd v
mul_within f (fin s m e) nan a c b d g h C D H x l v w = absurd w
mul_within f (fin s m e) (inf t) a c b d g h C D H x l v w = absurd w
mul_within f (fin s m e) (fin t n k) a c b d g h C D H x l v w =
    round_within f (unlike s t) (m * up e * (n * up k)) (down e * down k) g h (mul-pos (down_pos e) (down_pos k)) H x
    (through (m * up e * (n * up k)) (a * b) g (down e * down k) (c * d) h (mul-pos C D)
    (le_trans (le_of_eq (mul-mul-mul_comm (m * up e) (n * up k) c d)) (le_trans (mul-le-mul v w) (le_of_eq (mul-mul-mul_comm a (down e) b (down k))))) l)

-- at one denominator c
module _ (f : Format) (g c : ℕ) (C : 0 < c) (x : T (exact f g c)) where
  sum_within : (s : Bool) (a : ℕ) (t : Bool) (b k : ℕ) → 0 < k → (a + b) * c ≤ g * k → Within (sum f s a t b k) g c
  unfolding sum
  sum_within s a t b k K l =
      pick (beq s t) (round f s (a + b) k) (cond (ltb a b) (round f t (b - a) k) (round f (s && ltb b a) (a - b) k)) (round_within f s (a + b) k g c K C x l)
      (pick (ltb a b) (round f t (b - a) k) (round f (s && ltb b a) (a - b) k)
      (round_within f t (b - a) k g c K C x (le_trans (mul-le-mul_right c (less b a)) (le_trans (le_of_eq (ap (λ (z : ℕ). z * c) (swap b a))) l)))
      (round_within f (s && ltb b a) (a - b) k g c K C x (le_trans (mul-le-mul_right c (less a b)) l)))
    where
      pick : (u : Bool) (y z : Float) → Within y g c → Within z g c → Within (cond u y z) g c
      pick true y z h j = h
      pick false y z h j = j

      less : (i j : ℕ) → i - j ≤ i + j
      less i j = omega arith

      swap : (i j : ℕ) → i + j ≡ j + i
      swap i j = omega arith

  pub add_within : (y z : Float) (a b : ℕ) → a + b ≤ g → Within y a c → Within z b c → Within (add f y z) g c
  unfolding add
  add_within nan z a b l v w = absurd v
  add_within (inf s) z a b l v w = absurd v
  add_within (fin s m e) nan a b l v w = absurd w
  add_within (fin s m e) (inf t) a b l v w = absurd w
  add_within (fin s m e) (fin t n d) a b l v w =
      sum_within s (m * up e * down d) t (n * up d * down e) (down e * down d) (mul-pos (down_pos e) (down_pos d))
      (total (m * up e) (n * up d) (down e) (down d) a b l v w)
    where
      both : {i j k l : ℕ} → i ≤ j → k ≤ l → i + k ≤ j + l
      both h k = omega arith

      -- p / de + q / dd ≤ a / c + b / c
      total : (p q de dd a b : ℕ) → a + b ≤ g → p * c ≤ a * de → q * c ≤ b * dd → (p * dd + q * de) * c ≤ g * (de * dd)
      total p q de dd a b l v w =
          let u : p * dd * c ≤ a * (de * dd) = le_trans (le_of_eq (mul_right_comm p dd c)) (le_trans (mul-le-mul_right dd v) (le_of_eq (mul_assoc a de dd))) in
          let i : q * de * c ≤ b * (de * dd) = le_trans (le_of_eq (mul_right_comm q de c)) (le_trans (mul-le-mul_right de w) (le_of_eq (mul_assoc b dd de ∙ ap (λ (z : ℕ). b * z) (mul_comm dd de)))) in
          le_trans (le_of_eq (add-mul (p * dd) (q * de) c)) (le_trans (both u i) (le_trans (le_of_eq (sym (add-mul a b (de * dd)))) (mul-le-mul_right (de * dd) l)))

  neg_within : (z : Float) (b : ℕ) → Within z b c → Within (neg z) b c
  unfolding neg
  neg_within nan b w = w
  neg_within (inf s) b w = w
  neg_within (fin s m e) b w = w

  pub sub_within : (y z : Float) (a b : ℕ) → a + b ≤ g → Within y a c → Within z b c → Within (sub f y z) g c
  unfolding sub
  sub_within y z a b l v w = add_within y (neg z) a b l v (neg_within z b w)
