-- No question's place is over 400, and so no answer's: one question at a time, and the elements of a row. Assumes nothing.
use mathlib.Core.Path.{◌≡◌, refl}
use mathlib.Core.Bool.{Bool, true, false}
use mathlib.Core.List.{List, [], ◌∷◌, ◌++◌}
use Prim.Native.Nat.{ℕ, suc, ◌+◌, ◌≤◌}
use native.Mathlib.Omega.{arith}
use lib.Dec.{T, leb, leb→le}
use lib.ListN.{length}
use lib.Ieee.{Float}
use Rattle.std.specs.Prelude.{Ok, Err}
use Rattle.refusals.specs.declared.Refusal.{Refusal}
use Rattle.refusals.specs.declared.Element.{Element}
use Rattle.refusals.specs.declared.Element.TheVariants.{Factor, Value}
use Rattle.refusals.specs.Answers.{Answer, Question, ask, answer_of, place_in}
use Rattle.refusals.specs.Elements.{element_asked, element_questions}
use Rattle.refusals.proofs.Answers.{and_then, appended}

unfoldable pub Most : List Question → Type 0
Most qs = place_in (answer_of qs) ≤ 400

pub none : Most []
unfolding Most answer_of
none = omega arith

-- a question's own place, and where it is not given those that follow
pub step : (refusal : Refusal) (place : ℕ) (b : Bool) (qs : List Question) → place ≤ 400 → (b ≡ false → Most qs) → Most (ask refusal place b ∷ qs)
unfolding Most answer_of
step refusal place true qs h m = h
step refusal place false qs h m = m refl

-- one whose place is written out
pub ask_step : (refusal : Refusal) (place : ℕ) (b : Bool) (qs : List Question) → T (leb place 400) → (b ≡ false → Most qs) → Most (ask refusal place b ∷ qs)
ask_step refusal place b qs h m = step refusal place b qs (leb→le place 400 h) m

-- two lists, one after the other
pub joined : (qs rest : List Question) → Most qs → Most rest → Most (qs ++ rest)
unfolding Most
joined qs rest m n = rw (appended qs rest) (by (answer_of qs) m)
  where
    by : (a : Answer) → place_in a ≤ 400 → place_in (and_then a (answer_of rest)) ≤ 400
    by (Ok u) h = n
    by (Err refused) h = h

-- an element's questions have the element's place
of_element : (element : Element) (place : ℕ) (x : Float) → place ≤ 400 → Most (element_asked element place x)
of_element (Factor limit) place x h = step _ place _ _ h (λ p. step _ place _ _ h (λ q. none))
of_element Value place x h = step _ place _ _ h (λ p. none)

-- the elements of a row of at most 400, from a place on
pub of_elements : (element : Element) (place : ℕ) (xs : List Float) → place + length xs ≤ 400 → Most (element_questions element place xs)
unfolding element_questions
of_elements element place [] h = none
of_elements element place (x ∷ xs) h = joined _ _ (of_element element place x (omega arith)) (of_elements element (suc place) xs (omega arith))
