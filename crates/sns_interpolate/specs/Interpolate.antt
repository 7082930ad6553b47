-- Interpolating sixteen factors to bands. Definitions only.
use Rattle.std.specs.Prelude.{◌≡◌, not, List, ◌∷◌, ℕ, eqb, length, Float}
use Rattle.interpolation.specs.Bands.{band_limit, count_ok, interpolated}
use Rattle.refusals.specs.declared.Refusal.TheVariants.{BandCount, Length}
use Rattle.refusals.specs.declared.Element.TheVariants.{Factor}
use Rattle.refusals.specs.Answers.{Answer, Question, ask, answer_of, kept}
use Rattle.refusals.specs.Elements.{element_questions}

-- 11: the band count isn't 60 or 64. 9: a lent buffer has the wrong length (factors 16, bands the band count). Then the factors by place.
unfoldable pub interpolate_questions : List Float → ℕ → ℕ → List Question
interpolate_questions factors count len =
    ask BandCount 0 (not (count_ok count)) ∷
    ask Length 0 (not (eqb (length factors) 16)) ∷
    ask Length 0 (not (eqb len count)) ∷
    element_questions (Factor band_limit) 0 factors

abbrev pub interpolate_answer : List Float → ℕ → ℕ → Answer
interpolate_answer factors count len = answer_of (interpolate_questions factors count len)

-- the whole result of a call, r, and what the bands hold at return, new, where they held old
abbrev pub InterpolateSays : List Float → ℕ → List Float → Answer → List Float → Type 0
InterpolateSays factors count old r new = (r ≡ interpolate_answer factors count (length old)) × (new ≡ kept r (interpolated factors count) old)
