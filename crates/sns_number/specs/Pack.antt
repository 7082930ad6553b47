-- Packing a pulse vector. Definitions only.
use Rattle.std.specs.Prelude.{not, List, [], ◌∷◌, ℕ, eqb, ℤ, length, Result, Ok, Err}
use Rattle.shapes.specs.Sets.{paired}
use Rattle.numbering.specs.Numbering.{pulses_of, lead_sign, index_of}
use Rattle.numbering.specs.declared.Numbered.{Numbered}
use Rattle.refusals.specs.declared.Refusal.TheVariants.{RateOrPair, Length, Pulses}
use Rattle.refusals.specs.declared.Refused.{Refused}
use Rattle.refusals.specs.Answers.{Question, ask, answer_of, giving}

-- 10: the pair is none of the four. 9: a lent buffer has the wrong length (pulses the pair's dimension).
-- 6: the vector's pulses don't add up to the pair's K.
unfoldable pub pack_questions : ℕ → ℕ → List ℤ → List Question
pack_questions n k v =
    ask RateOrPair 0 (not (paired n k)) ∷
    ask Length 0 (not (eqb (length v) n)) ∷
    ask Pulses 0 (not (eqb (pulses_of v) k)) ∷
    []

-- the index and the lead sign of a vector
abbrev pub numbered_of : List ℤ → Numbered
numbered_of v = record { index = index_of v; sign = lead_sign v }

abbrev pub pack_answer : ℕ → ℕ → List ℤ → Result Numbered Refused
pack_answer n k v = giving (answer_of (pack_questions n k v)) (numbered_of v)

-- an answer's values, which are 0 where the call is refused
abbrev pub index_in : Result Numbered Refused → ℕ
index_in (Ok n) = n.index
index_in (Err refused) = 0

abbrev pub sign_in : Result Numbered Refused → ℕ
sign_in (Ok n) = n.sign
sign_in (Err refused) = 0
