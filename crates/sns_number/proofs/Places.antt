-- The call's place is at most 400. Assumes nothing.
use mathlib.Core.List.{List}
use Prim.Native.Nat.{ℕ, ◌≤◌}
use lib.IntN.{ℤ}
use Rattle.std.specs.Prelude.{Ok, Err}
use Rattle.refusals.specs.Answers.{Answer, answer_of, giving, place_in}
use Rattle.sns_number.specs.Unpack.{unpack_questions, unpack_answer}
use Rattle.sns_number.specs.Pack.{pack_questions, numbered_of, pack_answer}
use Rattle.refusals.proofs.Places.{Most, none, ask_step}

pub unpack_place : (n k sign index len : ℕ) → place_in (unpack_answer n k sign index len) ≤ 400
unfolding Most unpack_questions
unpack_place n k sign index len =
    ask_step _ 0 _ _ tt (λ a. ask_step _ 0 _ _ tt (λ b. ask_step _ 0 _ _ tt (λ d. ask_step _ 0 _ _ tt (λ e. none))))

pub pack_place : (n k : ℕ) (v : List ℤ) → place_in (pack_answer n k v) ≤ 400
unfolding Most pack_questions
pack_place n k v = by (answer_of (pack_questions n k v)) (ask_step _ 0 _ _ tt (λ a. ask_step _ 0 _ _ tt (λ b. ask_step _ 0 _ _ tt (λ d. none))))
  where
    by : (a : Answer) → place_in a ≤ 400 → place_in (giving a (numbered_of v)) ≤ 400
    by (Ok u) h = h
    by (Err refused) h = h
