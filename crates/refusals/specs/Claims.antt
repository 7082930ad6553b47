-- What is claimed of the questions and of what a refusal leaves. The proofs are in proofs/Answers and proofs/Elements.
use Rattle.std.specs.Prelude.{◌≡◌, Bool, true, not, List, ◌∷◌, ◌++◌, ℕ, ◌<◌, T, ltb, Float, Err}
use Rattle.list_laws.specs.Every.{every}
use Rattle.refusals.specs.declared.Refusal.{Refusal}
use Rattle.refusals.specs.declared.Refused.{Refused}
use Rattle.refusals.specs.declared.Element.{Element}
use Rattle.refusals.specs.Elements.{element_questions}
use Rattle.refusals.specs.Answers.{number_of, Answer, Done, No, Question, ask, answer_of, number_in}

-- every refusal has a number above 0, and a number of its own
abbrev pub NumberAbove : Type 0
NumberAbove = (refusal : Refusal) → 0 < number_of refusal

abbrev pub NumberOwn : Type 0
NumberOwn = (refusal other : Refusal) → number_of refusal ≡ number_of other → refusal ≡ other

-- a question of this refusal and place is given, and none before it
pub record FirstGiven (qs : List Question) (refusal : Refusal) (place : ℕ) : Type 0 where
  pub before : List Question
  pub after : List Question
  pub split : qs ≡ before ++ ask refusal place true ∷ after
  pub none_before : T (every (λ (q : Question). not q.given) before)

-- whatever the questions: a call is refused with the first that is given, always then and only then
abbrev pub RefusedExactly : Type 0
RefusedExactly = (qs : List Question) (refusal : Refusal) (place : ℕ) → (FirstGiven qs refusal place → answer_of qs ≡ No refusal place) × (answer_of qs ≡ No refusal place → FirstGiven qs refusal place)

-- and it is done exactly when none is given
abbrev pub DoneExactly : Type 0
DoneExactly =
    (qs : List Question)
    → (T (every (λ (q : Question). not q.given) qs) → answer_of qs ≡ Done) × (answer_of qs ≡ Done → T (every (λ (q : Question). not q.given) qs))

-- every question's number is above 0
abbrev pub numbered : List Question → Bool
numbered qs = every (λ (q : Question). ltb 0 (number_of q.refusal)) qs

-- a call with the number 0 is done, whatever its questions
abbrev pub ZeroDone : Type 0
ZeroDone = (qs : List Question) → number_in (answer_of qs) ≡ 0 → answer_of qs ≡ Done

-- the elements' questions have numbers above 0
abbrev pub ElementsNumbered : Type 0
ElementsNumbered = (element : Element) (place : ℕ) (xs : List Float) → T (numbered (element_questions element place xs))

abbrev pub Keeps : {A : Type 0} → (List A → Answer → List A → Type 0) → Type 0
Keeps {A} says = (old : List A) (r : Answer) (new : List A) (no : Refused) → says old r new → r ≡ Err no → new ≡ old
