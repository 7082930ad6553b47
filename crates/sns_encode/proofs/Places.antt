-- The call's place is at most 400. Assumes nothing.
use mathlib.Core.List.{List}
use Prim.Native.Nat.{ℕ, ◌≤◌}
use native.Mathlib.Omega.{arith}
use borrow.Author.Tests.{not-false, eqb-true}
use lib.ListN.{length}
use lib.Ieee.{Float}
use Rattle.std.specs.Prelude.{Ok, Err}
use Rattle.refusals.specs.Answers.{Answer, giving, place_in}
use Rattle.sns_encode.specs.declared.Encoded.{Encoded}
use Rattle.sns_encode.specs.Encode.{encode_questions, encode_answer}
use Rattle.refusals.proofs.Places.{Most, ask_step, of_elements}

pub encode_place : (factors : List Float) (len : ℕ) (encoded : Encoded) → place_in (giving (encode_answer factors len) encoded) ≤ 400
unfolding Most encode_questions
encode_place factors len encoded =
    by (encode_answer factors len)
    (ask_step _ 0 _ _ tt (λ a. ask_step _ 0 _ _ tt (λ b.
    of_elements _ 0 factors (omega (arith, eqb-true (length factors) 16 (not-false _ a))))))
  where
    by : (a : Answer) → place_in a ≤ 400 → place_in (giving a encoded) ≤ 400
    by (Ok u) h = h
    by (Err refused) h = h
