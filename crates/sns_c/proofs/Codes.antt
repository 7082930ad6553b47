-- A call's answer and buffer, handed out as a code. Assumes nothing.
use mathlib.Core.Path.{◌≡◌, sym, ap, ◌∙◌, subst}
use mathlib.Core.List.{List}
use Prim.Native.Nat.{◌≤◌}
use Rattle.std.specs.Prelude.{Result}
use Rattle.refusals.specs.declared.Refused.{Refused}
use Rattle.refusals.specs.Answers.{Answer, number_in, place_in, kept}
use Rattle.sns_c.specs.declared.Code.{Code}
use Rattle.sns_c.specs.Answers.{IsCode, CodeSays}

pub says : {A : Type 0} {a answer : Answer} {filled old new : List A} {r : Code}
    → (a ≡ answer) × (new ≡ kept a filled old) → IsCode a r → CodeSays answer filled old r new
says {filled = filled} {old = old} (e, b) c =
    record {
      code = record { number = c.number ∙ ap number_in e; place = c.place ∙ ap place_in e };
      buffer = b ∙ ap (λ a. kept a filled old) e;
    }

-- an answer's place is as small as that of the definition it equals
pub small : {A : Type 0} {a answer : Result A Refused} → a ≡ answer → place_in answer ≤ 400 → place_in a ≤ 400
small e h = subst (λ a. place_in a ≤ 400) (sym e) h
