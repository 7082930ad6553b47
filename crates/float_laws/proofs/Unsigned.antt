-- Values that are their own absolute value (no minus sign, or a NaN): sums, products and quotients of such are such. Assumes nothing.
use mathlib.Core.Path.{◌≡◌, refl, ◌∙◌, subst}
use mathlib.Core.Bool.{Bool, true, false, not, ◌&&◌, ◌||◌, cond}
use mathlib.Core.Logic.{inl, inr}
use Prim.Native.Nat.{ℕ, zero, suc, ◌*◌, ◌<◌, ◌≤◌}
use native.Mathlib.Nat.{le_trans, le-suc, le_of_lt, eq-or-lt_of_le}
use native.Mathlib.Omega.{arith}
use borrow.Author.Tests.{ltb-true, ltb-false, lt-ltb, le-ltb, eq-eqb, ne_eqb}
use lib.Dec.{T, eqb, ltb}
use lib.IntN.{pos}
use lib.Ieee.{Float, nan, inf, fin, Format, binary32, of_bits, up, down, round, sum, add, mul, div, lt, eq, le}
use Rattle.float_laws.specs.Kind.{finite, plain}
use Rattle.float_laws.specs.Absolute.{abs_of}
use Rattle.float_laws.specs.Running.{sum_to}
use Rattle.float_laws.proofs.NoNan.{round_plain}
use Rattle.float_laws.proofs.Absolute.{not_minus}

unfoldable pub unsigned : Float → Bool
unsigned nan = true
unsigned (inf s) = not s
unsigned (fin s m e) = not s

pub own_unsigned : (x : Float) → abs_of x ≡ x → T (unsigned x)
unfolding unsigned abs_of
own_unsigned nan e = tt
own_unsigned (inf true) e = subst (λ (y : Float). T (unsigned y)) e tt
own_unsigned (inf false) e = tt
own_unsigned (fin true m d) e = subst (λ (y : Float). T (unsigned y)) e tt
own_unsigned (fin false m d) e = tt

pub unsigned_own : (x : Float) → T (unsigned x) → abs_of x ≡ x
unfolding unsigned abs_of
unsigned_own nan h = refl
unsigned_own (inf true) h = absurd h
unsigned_own (inf false) h = refl
unsigned_own (fin true m d) h = absurd h
unsigned_own (fin false m d) h = refl

pub abs_own : (x : Float) → abs_of (abs_of x) ≡ abs_of x
unfolding abs_of
abs_own nan = refl
abs_own (inf s) = refl
abs_own (fin s m e) = refl

pub plain_unsigned : (x : Float) → T (plain x) → T (unsigned x)
unfolding unsigned
plain_unsigned nan h = tt
plain_unsigned (inf s) h = h
plain_unsigned (fin s m e) h = h

round_unsigned : (f : Format) (num den : ℕ) → T (unsigned (round f false num den))
round_unsigned f num den = plain_unsigned (round f false num den) (round_plain f num den)

cond_unsigned : (b : Bool) (x y : Float) → T (unsigned x) → T (unsigned y) → T (unsigned (cond b x y))
cond_unsigned true x y h k = h
cond_unsigned false x y h k = k

pub mul_unsigned : (f : Format) (x y : Float) → T (unsigned x) → T (unsigned y) → T (unsigned (mul f x y))
unfolding mul unsigned
mul_unsigned f nan y h k = tt
mul_unsigned f (inf true) y h k = absurd h
mul_unsigned f (inf false) nan h k = tt
mul_unsigned f (inf false) (inf true) h k = absurd k
mul_unsigned f (inf false) (inf false) h k = tt
mul_unsigned f (inf false) (fin true n d) h k = absurd k
mul_unsigned f (inf false) (fin false n d) h k = cond_unsigned (eqb n 0) nan (inf false) tt tt
mul_unsigned f (fin true m e) y h k = absurd h
mul_unsigned f (fin false m e) nan h k = tt
mul_unsigned f (fin false m e) (inf true) h k = absurd k
mul_unsigned f (fin false m e) (inf false) h k = cond_unsigned (eqb m 0) nan (inf false) tt tt
mul_unsigned f (fin false m e) (fin true n d) h k = absurd k
mul_unsigned f (fin false m e) (fin false n d) h k = round_unsigned f _ _

pub div_unsigned : (f : Format) (x y : Float) → T (unsigned x) → T (unsigned y) → T (unsigned (div f x y))
unfolding div unsigned
div_unsigned f nan y h k = tt
div_unsigned f (inf true) y h k = absurd h
div_unsigned f (inf false) nan h k = tt
div_unsigned f (inf false) (inf t) h k = tt
div_unsigned f (inf false) (fin true n d) h k = absurd k
div_unsigned f (inf false) (fin false n d) h k = tt
div_unsigned f (fin true m e) y h k = absurd h
div_unsigned f (fin false m e) nan h k = tt
div_unsigned f (fin false m e) (inf true) h k = absurd k
div_unsigned f (fin false m e) (inf false) h k = tt
div_unsigned f (fin false m e) (fin true n d) h k = absurd k
div_unsigned f (fin false m e) (fin false n d) h k =
    cond_unsigned (eqb n 0) (cond (eqb m 0) nan (inf false)) (round f false (m * up e * down d) (n * up d * down e)) (cond_unsigned (eqb m 0) nan (inf false) tt tt) (round_unsigned f _ _)

pub add_unsigned : (f : Format) (x y : Float) → T (unsigned x) → T (unsigned y) → T (unsigned (add f x y))
unfolding add unsigned
add_unsigned f nan y h k = tt
add_unsigned f (inf true) y h k = absurd h
add_unsigned f (inf false) nan h k = tt
add_unsigned f (inf false) (inf true) h k = absurd k
add_unsigned f (inf false) (inf false) h k = tt
add_unsigned f (inf false) (fin t n d) h k = tt
add_unsigned f (fin true m e) y h k = absurd h
add_unsigned f (fin false m e) nan h k = tt
add_unsigned f (fin false m e) (inf true) h k = absurd k
add_unsigned f (fin false m e) (inf false) h k = tt
add_unsigned f (fin false m e) (fin true n d) h k = absurd k
add_unsigned f (fin false m e) (fin false n d) h k = unfold sum in round_unsigned f _ _

zero_unsigned : T (unsigned (of_bits binary32 0))
unfolding of_bits unsigned
zero_unsigned = tt

pub sum_unsigned : (g : ℕ → Float) (k : ℕ) → ((i : ℕ) → i < k → T (unsigned (g i))) → (n : ℕ) → n ≤ k → T (unsigned (sum_to g n))
unfolding sum_to
sum_unsigned g k t zero l = zero_unsigned
sum_unsigned g k t (suc n) l = add_unsigned binary32 (sum_to g n) (g n) (sum_unsigned g k t n (le_trans (le-suc n) l)) (t n l)

-- such a value is not below zero
pub not_below : (x : Float) → T (unsigned x) → T (not (lt x (fin false 0 (pos 0))))
unfolding lt unsigned
not_below nan u = tt
not_below (inf true) u = absurd u
not_below (inf false) u = tt
not_below (fin true m e) u = absurd u
not_below (fin false m e) u = not_minus (fin false m e) tt

-- of two such numbers, one is at or below the other, or above it
pub le_flip : (x y : Float) → T (unsigned x) → T (unsigned y) → T (finite x) → T (finite y) → le x y ≡ not (lt y x)
unfolding le lt eq unsigned
le_flip nan y h k u v = absurd u
le_flip (inf s) y h k u v = absurd u
le_flip (fin true m e) y h k u v = absurd h
le_flip (fin false m e) nan h k u v = absurd v
le_flip (fin false m e) (inf t) h k u v = absurd v
le_flip (fin false m e) (fin true n d) h k u v = absurd k
le_flip (fin false m e) (fin false n d) h k u v = go (m * up e * down d) (n * up d * down e) (ltb (n * up d * down e) (m * up e * down d)) refl
  where
    -- the parts of `le` on two numbers
    parts : (p q r : Bool) → p || (q && (true || r)) ≡ p || q
    parts true q r = refl
    parts false true r = refl
    parts false false r = refl

    or_true : (p : Bool) → p || true ≡ true
    or_true true = refl
    or_true false = refl

    lt_irrefl_eq : (a b : ℕ) → a ≡ b → b < a → ⊥
    lt_irrefl_eq a b e l = omega arith

    level : (a b : ℕ) → a ≤ b → ltb a b || eqb a b ≡ true
    level a b l = elim (eq-or-lt_of_le l) [ inl i ↦ rw (eq-eqb a b i) (or_true (ltb a b)) | inr i ↦ rw (lt-ltb a b i) ]

    go : (a b : ℕ) (t : Bool) → ltb b a ≡ t → ltb a b || (eqb a b && (true || eqb a 0)) ≡ not t
    go a b true e = let l = ltb-true b a e in parts (ltb a b) (eqb a b) (eqb a 0) ∙ rw (le-ltb a b (le_of_lt l), ne_eqb a b (λ (i : a ≡ b). lt_irrefl_eq a b i l))
    go a b false e = parts (ltb a b) (eqb a b) (eqb a 0) ∙ level a b (ltb-false b a e)
