-- From a test that came out true or false to its meaning, and the small steps of Bool that the float laws share. Assumes nothing.
use mathlib.Core.Path.{◌≡◌, sym, subst}
use mathlib.Core.Logic.{◌⊎◌, inl, inr}
use Prim.Native.Nat.{ℕ, ◌≤◌}
use native.Mathlib.Nat.{le_of_eq, le_of_lt}
use mathlib.Core.Bool.{Bool, true, false, not, ◌&&◌, ◌||◌}
use lib.Dec.{T, ltb, eqb, ltb→lt, eqb→eq}
use lib.Ieee.Fits.{and_l}

pub yes : {b : Bool} → b ≡ true → T b
yes e = subst T (sym e) tt

pub no : {b : Bool} → b ≡ false → T (not b)
no e = subst (λ (b : Bool). T (not b)) (sym e) tt

pub or_split : (a b : Bool) → T (a || b) → T a ⊎ T b
or_split true b t = inl tt
or_split false b t = inr t

pub or_left : (a b : Bool) → T a → T (a || b)
or_left true b t = tt
or_left false b t = absurd t

pub or_right : (a b : Bool) → T b → T (a || b)
or_right true b t = tt
or_right false b t = t

-- the parts of `le` on two numbers: one below the other, or level with it
pub lt_or_eq : (a b : ℕ) (t : Bool) → T (ltb a b || (eqb a b && t)) → a ≤ b
lt_or_eq a b t h = elim (or_split (ltb a b) (eqb a b && t) h) [ inl u ↦ le_of_lt (ltb→lt a b u) | inr u ↦ le_of_eq (eqb→eq a b (and_l (eqb a b) t u)) ]

pub gt_or_eq : (a b : ℕ) (t : Bool) → T (ltb b a || (eqb a b && t)) → b ≤ a
gt_or_eq a b t h = elim (or_split (ltb b a) (eqb a b && t) h) [ inl u ↦ le_of_lt (ltb→lt b a u) | inr u ↦ le_of_eq (sym (eqb→eq a b (and_l (eqb a b) t u))) ]
