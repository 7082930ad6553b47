-- The questions for the elements of a row, one element after another, and what a row that is taken says of each. Assumes nothing.
use mathlib.Core.Path.{◌≡◌, refl, ap}
use mathlib.Core.Bool.{Bool, true, false, not}
use mathlib.Core.List.{List, [], ◌∷◌}
use Prim.Native.Nat.{ℕ, suc, ◌+◌, ◌<◌}
use native.Mathlib.Numerals.{add-one}
use lib.Dec.{T}
use lib.ListN.{length, get_or, drop}
use lib.Seq.{drop-cons}
use lib.Ieee.{Float, nan}
use borrow.Author.Tests.{not-false}
use Rattle.float_laws.specs.Kind.{finite}
use Rattle.float_laws.specs.Size.{Within}
use Rattle.float_laws.proofs.Logic.{yes, no}
use Rattle.list_laws.specs.Every.{both, every}
use Rattle.list_laws.proofs.Every.{both_left, both_right, both_are, at}
use Rattle.factor.specs.Check.{factor_limit, beyond}
use Rattle.factor.proofs.Laws as factor
use Rattle.refusals.specs.declared.Element.{Element}
use Rattle.refusals.specs.declared.Element.TheVariants.{Factor, Value}
use Rattle.refusals.specs.Answers.{Answer, Done, answer_of}
use Rattle.refusals.specs.Elements.{element_asked, element_questions}
use Rattle.refusals.specs.Claims.{ElementsNumbered}
use Rattle.refusals.proofs.Answers.{none_left, not_given, done, and_then, appended, all_pass, both_done, not_yes}

-- ---- what is left from i on starts with the element at i
pub element_at : (element : Element) (xs : List Float) (i : ℕ) (r : Answer) → i < length xs → r ≡ answer_of (element_asked element i (get_or xs i nan))
    → answer_of (element_questions element i (drop i xs)) ≡ and_then r (answer_of (element_questions element (i + 1) (drop (i + 1) xs)))
unfolding element_questions
element_at element xs i r h e = rw (drop-cons xs i nan h, add-one, e) (appended (element_asked element i (get_or xs i nan)) _)

-- ---- no question is given exactly when every element is as it should be

-- a factor is finite and not beyond the limit; a value is finite
abbrev pub taken_as : Element → Float → Bool
taken_as (Factor limit) x = both (finite x) (not (beyond limit x))
taken_as Value x = finite x

is : (b : Bool) → T b → b ≡ true
is true t = refl
is false t = absurd t

-- one element
one_done : (element : Element) (place : ℕ) (x : Float) → T (taken_as element x) → Done ≡ answer_of (element_asked element place x)
one_done (Factor limit) place x t =
    not_given _ place _ _ (ap not (is (finite x) (both_left (finite x) (not (beyond limit x)) t)))
    (not_given _ place _ _ (not_yes _ (both_right (finite x) (not (beyond limit x)) t)) none_left)
one_done Value place x t = not_given _ place _ _ (ap not (is (finite x) t)) none_left

done_one : (element : Element) (place : ℕ) (x : Float) → answer_of (element_asked element place x) ≡ Done → T (taken_as element x)
done_one (Factor limit) place x e =
    let d = done _ place (not (finite x)) _ e in
    both_are (finite x) (not (beyond limit x)) (yes (not-false (finite x) d.0)) (no {b = beyond limit x} (done _ place (beyond limit x) _ d.1).0)
done_one Value place x e = yes (not-false (finite x) (done _ place (not (finite x)) _ e).0)

-- a row of them
pub all_done : (element : Element) (place : ℕ) (xs : List Float) → T (every (taken_as element) xs) → Done ≡ answer_of (element_questions element place xs)
unfolding element_questions
all_done element place [] t = none_left
all_done element place (x ∷ xs) t =
    all_pass (element_asked element place x) _ refl (one_done element place x (both_left (taken_as element x) (every (taken_as element) xs) t))
    (all_done element (suc place) xs (both_right (taken_as element x) (every (taken_as element) xs) t))

pub done_all : (element : Element) (place : ℕ) (xs : List Float) → answer_of (element_questions element place xs) ≡ Done → T (every (taken_as element) xs)
unfolding element_questions
done_all element place [] e = tt
done_all element place (x ∷ xs) e =
    let d = both_done (element_asked element place x) _ e in
    both_are (taken_as element x) (every (taken_as element) xs) (done_one element place x d.0) (done_all element (suc place) xs d.1)

-- ---- their numbers are above 0
pub elements_numbered : ElementsNumbered
unfolding element_questions
elements_numbered element place [] = tt
elements_numbered (Factor limit) place (x ∷ xs) = elements_numbered (Factor limit) (suc place) xs
elements_numbered Value place (x ∷ xs) = elements_numbered Value (suc place) xs

-- ---- each factor of a row that is taken is within the limit
pub within_limit : (xs : List Float) → answer_of (element_questions (Factor factor_limit) 0 xs) ≡ Done → (i : ℕ) → i < length xs → Within (get_or xs i nan) 64 1
within_limit xs e i h =
    let x = get_or xs i nan in
    let t = at nan (taken_as (Factor factor_limit)) xs (done_all (Factor factor_limit) 0 xs e) i h in
    factor.within_limit x (both_left (finite x) (not (beyond factor_limit x)) t) (not_yes _ (both_right (finite x) (not (beyond factor_limit x)) t))
