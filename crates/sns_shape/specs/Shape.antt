-- Shaping spectrum lines by linear gains. Definitions only.
use Rattle.std.specs.Prelude.{◌≡◌, Bool, ◌||◌, not, List, ◌∷◌, ◌++◌, ℕ, eqb, ltb, length, take, Float}
use Rattle.band_index_tables.specs.Bands.{bands_of, last_limit}
use Rattle.interpolation.specs.Bands.{count_ok}
use Rattle.shaping.specs.Shaping.{shaped_of}
use Rattle.refusals.specs.declared.Refusal.TheVariants.{BandCount, Length, RateOrPair}
use Rattle.refusals.specs.declared.Element.TheVariants.{Value}
use Rattle.refusals.specs.Answers.{Answer, Question, ask, answer_of, kept}
use Rattle.refusals.specs.Elements.{element_questions}

-- 10: the rate index is over 4. 11: the band count isn't 60 or 64, or isn't the table's. 9: a lent buffer has the wrong length
-- (gains the band count, lines fewer than the last band limit). 12 looks at all gains, then the lines below the last limit.
unfoldable pub shape_questions : ℕ → Bool → ℕ → List Float → List Float → List Question
shape_questions rate ten count gains lines =
    ask RateOrPair 0 (ltb 4 rate) ∷
    ask BandCount 0 (not (count_ok count) || not (eqb count (bands_of rate ten))) ∷
    ask Length 0 (not (eqb (length gains) count)) ∷
    ask Length 0 (ltb (length lines) (last_limit rate ten)) ∷
    (element_questions Value 0 gains ++ element_questions Value 0 (take (last_limit rate ten) lines))

abbrev pub shape_answer : ℕ → Bool → ℕ → List Float → List Float → Answer
shape_answer rate ten count gains lines = answer_of (shape_questions rate ten count gains lines)

-- the whole result of a call, r, and what the lines hold at return, new, where they held old
abbrev pub ShapeSays : ℕ → Bool → ℕ → List Float → List Float → Answer → List Float → Type 0
ShapeSays rate ten count gains old r new = (r ≡ shape_answer rate ten count gains old) × (new ≡ kept r (shaped_of rate ten gains old) old)
