-- Where an operation gives no NaN, with no bound on any size: a difference of a value that is no NaN and a finite one, a square, and a sum of values whose sign is plus.
-- Assumes nothing.
use Prim.Native.Nat.{ℕ, zero, suc, ◌+◌, ◌-◌, ◌*◌, ◌^◌}
use mathlib.Core.Bool.{Bool, true, false, not, ◌&&◌, beq, cond}
use lib.Dec.{T, ltb}
use lib.Ieee.{Float, nan, inf, fin, Format, prec, emax, low, odd, units, round, neg, sum, add, sub, mul, is_nan}
use lib.Ieee.Fits.{round_is}
use Rattle.float_laws.specs.Kind.{finite, plain}

pub plain_no_nan : (x : Float) → T (plain x) → T (not (is_nan x))
unfolding is_nan
plain_no_nan nan h = h
plain_no_nan (inf s) h = tt
plain_no_nan (fin s m e) h = tt

pub finite_no_nan : (x : Float) → T (finite x) → T (not (is_nan x))
unfolding is_nan
finite_no_nan nan h = h
finite_no_nan (inf s) h = absurd h
finite_no_nan (fin s m e) h = tt

-- ---- what `round` gives is no NaN, and has the sign that it is given
has_sign : Bool → Float → Bool
has_sign s nan = false
has_sign s (inf t) = beq s t
has_sign s (fin t m e) = beq s t

beq_self : (s : Bool) → T (beq s s)
beq_self true = tt
beq_self false = tt

odd_has : (d : ℕ) (s : Bool) (q k l : ℕ) → T (has_sign s (odd d s q k l))
unfolding odd has_sign
odd_has d s zero k l = beq_self s
odd_has d s (suc q) k l = beq_self s

cond_has : (s b : Bool) (x y : Float) → T (has_sign s x) → T (has_sign s y) → T (has_sign s (cond b x y))
cond_has s true x y h k = h
cond_has s false x y h k = k

inf_has : (s : Bool) → T (has_sign s (inf s))
unfolding has_sign
inf_has s = beq_self s

units_has : (f : Format) (s : Bool) (q k : ℕ) → T (has_sign s (units f s q k))
unfolding units
units_has f s q k =
    cond_has s (ltb (q * 2 ^ k) (2 ^ (low f + suc (emax f)))) (odd (suc (prec f)) s q k (low f)) (inf s) (odd_has (suc (prec f)) s q k (low f)) (inf_has s)

round_has : (f : Format) (s : Bool) (num den : ℕ) → T (has_sign s (round f s num den))
round_has f s num den = rw round_is (units_has f s _ _)

has_no_nan : (s : Bool) (x : Float) → T (has_sign s x) → T (not (is_nan x))
unfolding is_nan has_sign
has_no_nan s nan h = h
has_no_nan s (inf t) h = tt
has_no_nan s (fin t m e) h = tt

has_plain : (x : Float) → T (has_sign false x) → T (plain x)
unfolding has_sign
has_plain nan h = h
has_plain (inf true) h = h
has_plain (inf false) h = h
has_plain (fin true m e) h = h
has_plain (fin false m e) h = h

-- ---- a sum and a difference
cond_no_nan : (b : Bool) (x y : Float) → T (not (is_nan x)) → T (not (is_nan y)) → T (not (is_nan (cond b x y)))
cond_no_nan true x y h k = h
cond_no_nan false x y h k = k

pub round_no_nan : (f : Format) (s : Bool) (num den : ℕ) → T (not (is_nan (round f s num den)))
round_no_nan f s num den = has_no_nan s (round f s num den) (round_has f s num den)

sum_no_nan : (f : Format) (s : Bool) (a : ℕ) (t : Bool) (b c : ℕ) → T (not (is_nan (sum f s a t b c)))
unfolding sum
sum_no_nan f s a t b c =
    cond_no_nan (beq s t) (round f s (a + b) c) (cond (ltb a b) (round f t (b - a) c) (round f (s && ltb b a) (a - b) c)) (round_no_nan f s (a + b) c)
    (cond_no_nan (ltb a b) (round f t (b - a) c) (round f (s && ltb b a) (a - b) c) (round_no_nan f t (b - a) c) (round_no_nan f (s && ltb b a) (a - b) c))

inf_no_nan : (s : Bool) → T (not (is_nan (inf s)))
unfolding is_nan
inf_no_nan s = tt

-- a value that is no NaN, and a finite one
pub add_no_nan : (f : Format) (x y : Float) → T (not (is_nan x)) → T (finite y) → T (not (is_nan (add f x y)))
unfolding add
add_no_nan f nan y h k = h
add_no_nan f (inf s) nan h k = absurd k
add_no_nan f (inf s) (inf t) h k = absurd k
add_no_nan f (inf s) (fin t n d) h k = inf_no_nan s
add_no_nan f (fin s m e) nan h k = absurd k
add_no_nan f (fin s m e) (inf t) h k = absurd k
add_no_nan f (fin s m e) (fin t n d) h k = sum_no_nan f s _ t _ _

neg_finite : (x : Float) → T (finite x) → T (finite (neg x))
unfolding neg
neg_finite nan h = h
neg_finite (inf s) h = absurd h
neg_finite (fin s m e) h = tt

pub sub_no_nan : (f : Format) (x y : Float) → T (not (is_nan x)) → T (finite y) → T (not (is_nan (sub f x y)))
unfolding sub
sub_no_nan f x y h k = add_no_nan f x (neg y) h (neg_finite y k)

-- ---- a square
pub round_plain : (f : Format) (num den : ℕ) → T (plain (round f false num den))
round_plain f num den = has_plain (round f false num den) (round_has f false num den)

pub square_plain : (f : Format) (x : Float) → T (not (is_nan x)) → T (plain (mul f x x))
unfolding mul is_nan
square_plain f nan h = absurd h
square_plain f (inf true) h = tt
square_plain f (inf false) h = tt
square_plain f (fin true m e) h = round_plain f _ _
square_plain f (fin false m e) h = round_plain f _ _

-- ---- a sum of values whose sign is plus
pub add_plain : (f : Format) (x y : Float) → T (plain x) → T (plain y) → T (plain (add f x y))
unfolding add
add_plain f nan y h k = absurd h
add_plain f (inf true) y h k = absurd h
add_plain f (inf false) nan h k = absurd k
add_plain f (inf false) (inf true) h k = absurd k
add_plain f (inf false) (inf false) h k = tt
add_plain f (inf false) (fin t n d) h k = tt
add_plain f (fin true m e) y h k = absurd h
add_plain f (fin false m e) nan h k = absurd k
add_plain f (fin false m e) (inf true) h k = absurd k
add_plain f (fin false m e) (inf false) h k = tt
add_plain f (fin false m e) (fin true n d) h k = absurd k
add_plain f (fin false m e) (fin false n d) h k = unfold sum in round_plain f _ _
