-- Unpacking an index and a lead sign. Definitions only.
use Rattle.std.specs.Prelude.{◌≡◌, not, List, [], ◌∷◌, ℕ, leb, eqb, ℤ, length}
use Rattle.mpvq_offsets.specs.Offsets.{size_of}
use Rattle.shapes.specs.Sets.{paired}
use Rattle.numbering.specs.Numbering.{vector_at}
use Rattle.refusals.specs.declared.Refusal.TheVariants.{RateOrPair, Length, LeadSign, Index}
use Rattle.refusals.specs.Answers.{Answer, Question, ask, answer_of, kept}

-- 10: the pair is none of the four. 9: a lent buffer has the wrong length (pulses the pair's dimension).
-- 4: a lead sign in use is neither 0 nor 1. 5: an index in use is at or above its size.
unfoldable pub unpack_questions : ℕ → ℕ → ℕ → ℕ → ℕ → List Question
unpack_questions n k sign index len =
    ask RateOrPair 0 (not (paired n k)) ∷
    ask Length 0 (not (eqb len n)) ∷
    ask LeadSign 0 (leb 2 sign) ∷
    ask Index 0 (leb (size_of n k) index) ∷
    []

abbrev pub unpack_answer : ℕ → ℕ → ℕ → ℕ → ℕ → Answer
unpack_answer n k sign index len = answer_of (unpack_questions n k sign index len)

-- the whole result of a call, r, and what the buffer holds at return, new, where it held old
abbrev pub UnpackSays : ℕ → ℕ → ℕ → ℕ → List ℤ → Answer → List ℤ → Type 0
UnpackSays n k sign index old r new = (r ≡ unpack_answer n k sign index (length old)) × (new ≡ kept r (vector_at n k sign index) old)
