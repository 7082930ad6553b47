-- What is claimed of check_factor. The proofs are in proofs/Claims.antt.
use Rattle.std.specs.Prelude.{◌≡◌, ℕ, Float}
use Rattle.factor.specs.declared.Checked.{Checked}
use Rattle.refusals.specs.declared.Element.TheVariants.{Factor}
use Rattle.refusals.specs.Answers as answers
use Rattle.refusals.specs.Elements.{element_asked}
use Rattle.sns_check.specs.CheckFactor.{refusal_of, CheckSays}

abbrev pub CheckPinned : Type 0
CheckPinned = (x : Float) (r r' : Checked) → CheckSays x r → CheckSays x r' → r ≡ r'

-- one factor is refused with the number that it has in a row of factors, at any place
abbrev pub CheckAsked : Type 0
CheckAsked = (limit x : Float) (place : ℕ) → refusal_of limit x ≡ answers.number_in (answers.answer_of (element_asked (Factor limit) place x))
