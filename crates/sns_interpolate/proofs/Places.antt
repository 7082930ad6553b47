-- The call's place is at most 400. Assumes nothing.
use mathlib.Core.Path.{◌≡◌}
use mathlib.Core.List.{List}
use Prim.Native.Nat.{ℕ, ◌+◌, ◌≤◌}
use native.Mathlib.Omega.{arith}
use borrow.Author.Tests.{not-false, eqb-true}
use lib.ListN.{length}
use lib.Ieee.{Float}
use Rattle.refusals.specs.Answers.{place_in}
use Rattle.sns_interpolate.specs.Interpolate.{interpolate_questions, interpolate_answer}
use Rattle.refusals.proofs.Places.{Most, ask_step, of_elements}

pub interpolate_place : (factors : List Float) (count len : ℕ) → place_in (interpolate_answer factors count len) ≤ 400
unfolding Most interpolate_questions
interpolate_place factors count len =
    ask_step _ 0 _ _ tt (λ a. ask_step _ 0 _ _ tt (λ b. ask_step _ 0 _ _ tt (λ d.
    of_elements _ 0 factors (sixteen (eqb-true _ 16 (not-false _ b))))))
  where
    sixteen : length factors ≡ 16 → 0 + length factors ≤ 400
    sixteen e = omega arith
