-- The questions for the elements of a lent row, by place. Definitions only.
use Rattle.std.specs.Prelude.{Bool, true, not, List, [], ◌∷◌, ◌++◌, ℕ, suc, Float}
use Rattle.float_laws.specs.Kind.{finite}
use Rattle.factor.specs.Check.{beyond}
use Rattle.refusals.specs.declared.Element.{Element}
use Rattle.refusals.specs.declared.Element.TheVariants.{Factor, Value}
use Rattle.refusals.specs.declared.Refusal.TheVariants as refusal
use Rattle.refusals.specs.Answers.{Question, ask}

-- 7: a factor is NaN or infinite. 8: a factor is above the limit or below minus the limit.
-- 12: a spectrum line or linear gain is NaN or infinite.
abbrev pub element_asked : Element → ℕ → Float → List Question
element_asked (Factor limit) place x = ask refusal.NotFinite place (not (finite x)) ∷ ask refusal.TooFar place (beyond limit x) ∷ []
element_asked Value place x = ask refusal.Value place (not (finite x)) ∷ []

-- elements by place: the place is the element's index
unfoldable pub element_questions : Element → ℕ → List Float → List Question
element_questions element place [] = []
element_questions element place (x ∷ xs) = element_asked element place x ++ element_questions element (suc place) xs

-- a limit, where there is one, is a finite number
abbrev pub limit_finite : Element → Bool
limit_finite (Factor limit) = finite limit
limit_finite Value = true
