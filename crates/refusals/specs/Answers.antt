-- When the port says no: a call's questions in their order, the first that is answered with yes, and its refusal and place. Definitions only.
use Rattle.std.specs.Prelude.{Bool, cond, List, [], ◌∷◌, ℕ, Result, Ok, Err, codes}
use Rattle.refusals.specs.declared.Refusal.{Refusal}
use Rattle.refusals.specs.declared.Refusal.TheVariants.{Row, Shape, Gain, LeadSign, Index, Pulses, NotFinite, TooFar, Length, RateOrPair, BandCount, Value}
use Rattle.refusals.specs.declared.Refused.{Refused}

-- the number of each refusal
abbrev pub number_of : Refusal → ℕ
number_of Row = 1
number_of Shape = 2
number_of Gain = 3
number_of LeadSign = 4
number_of Index = 5
number_of Pulses = 6
number_of NotFinite = 7
number_of TooFar = 8
number_of Length = 9
number_of RateOrPair = 10
number_of BandCount = 11
number_of Value = 12

-- the table's words for each refusal
abbrev pub words_of : Refusal → List ℕ
words_of Row = codes "a codebook row is over 31"
words_of Shape = codes "the shape is over 3"
words_of Gain = codes "the gain is over 1, 3, 3, 7 for shapes 0 to 3"
words_of LeadSign = codes "a lead sign in use is neither 0 nor 1"
words_of Index = codes "an index in use is at or above its size"
words_of Pulses = codes "the vector's pulses don't add up to the pair's K"
words_of NotFinite = codes "a factor is NaN or infinite"
words_of TooFar = codes "a factor is above the limit or below minus the limit"
words_of Length = codes "a lent buffer has the wrong length"
words_of RateOrPair = codes "the rate index is over 4, or the pair is none of the four"
words_of BandCount = codes "the band count isn't 60 or 64, or isn't the table's"
words_of Value = codes "a spectrum line or linear gain is NaN or infinite"

-- What a call answers that gives nothing back but a filled buffer: done, or no, with a refusal and its place.
abbrev pub Answer : Type 0
Answer = Result Unit Refused

abbrev pub Done : Answer
Done = Ok tt

abbrev pub No : Refusal → ℕ → Answer
No refusal place = Err (record { refusal = refusal; place = place })

-- a refusal and its place, and whether it is given
pub record Question : Type 0 where
  pub refusal : Refusal
  pub place : ℕ
  pub given : Bool

abbrev pub ask : Refusal → ℕ → Bool → Question
ask refusal place given = record { refusal = refusal; place = place; given = given }

-- Order: 10, 11, 9, 1 (low, high), 2, 3, 4 (A, B), 5 (A, B), 6, then elements by place; a call is asked only the questions for
-- inputs it has. Each call lists its own in this order: the first that is given is the answer.
unfoldable pub answer_of : List Question → Answer
answer_of [] = Done
answer_of (q ∷ qs) = cond q.given (No q.refusal q.place) (answer_of qs)

-- What a call gives besides where it is done; a refusal gives nothing.
abbrev pub giving : {A : Type 0} → Answer → A → Result A Refused
giving (Ok u) x = Ok x
giving (Err refused) x = Err refused

-- A refusal returns its number and a place; 0 and 0 where the call is done.
abbrev pub number_in : {A : Type 0} → Result A Refused → ℕ
number_in (Ok x) = 0
number_in (Err refused) = number_of refused.refusal

abbrev pub place_in : {A : Type 0} → Result A Refused → ℕ
place_in (Ok x) = 0
place_in (Err refused) = refused.place

-- A refusal changes no lent byte: what a buffer holds at return.
abbrev pub kept : {A B : Type 0} → Result B Refused → List A → List A → List A
kept (Ok x) new old = new
kept (Err refused) new old = old
