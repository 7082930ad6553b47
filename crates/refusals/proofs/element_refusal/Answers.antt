-- By what the element is: a factor's check in the words of the refusals, or whether a value is finite.
use mathlib.Core.Path.{◌≡◌, refl, sym, ap, ◌∙◌, subst}
use mathlib.Core.Bool.{Bool, true, false, not, cond}
use mathlib.Core.List.{[], ◌∷◌}
use Prim.Native.Nat.{ℕ}
use lib.Dec.{T}
use lib.Ieee.{Float}
use Rattle.std.specs.Prelude.{Err}
use Rattle.float_laws.specs.Kind.{finite}
use Rattle.factor.specs.declared.Checked.{Checked}
use Rattle.factor.specs.declared.Checked.TheVariants.{Within, TooFar, NotFinite}
use Rattle.factor.specs.Check.{beyond, checked_of}
use Rattle.factor.proofs.Laws.{finite_is}
use Rattle.refusals.specs.declared.Refusal.TheVariants as refusal
use Rattle.refusals.specs.declared.Element.{Element}
use Rattle.refusals.specs.declared.Element.TheVariants.{Factor}
use Rattle.refusals.specs.Answers.{Answer, Done, No, ask, answer_of}
use Rattle.refusals.specs.Elements.{element_asked, limit_finite}
use Rattle.refusals.proofs.element_refusal.Goals as goal

-- a factor's check as an answer
checked_as : ℕ → Checked → Answer
checked_as place (Within x) = Done
checked_as place (TooFar x) = No refusal.TooFar place
checked_as place NotFinite = No refusal.NotFinite place

as_factor : (element : Element) (limit x : Float) (place : ℕ) (k : Checked) → element ≡ Factor limit → k ≡ checked_of limit x
    → checked_as place k ≡ answer_of (element_asked element place x)
unfolding answer_of checked_as
as_factor element limit x place k p q = rw (p, q) (by (finite x) (beyond limit x))
  where
    by : (f b : Bool) → checked_as place (cond f (cond b (TooFar x) (Within x)) NotFinite) ≡ cond (not f) (No refusal.NotFinite place) (cond b (No refusal.TooFar place) Done)
    by true true = refl
    by true false = refl
    by false b = refl

pub check_against-requires : goal.check_against-requires
check_against-requires c = subst (λ (e : Element). T (limit_finite e)) c.in-Factor.is c.requires

-- what the check has answered
pub returns-in-Within : goal.returns-in-Within
unfolding checked_as
returns-in-Within c = as_factor c.args.element _ c.args.x c.args.place _ c.in-Factor.is (sym c.in-Within.is ∙ c.check_against.ensures)

pub returns-in-TooFar : goal.returns-in-TooFar
unfolding checked_as
returns-in-TooFar c = ap Err c.at.ensures ∙ as_factor c.args.element _ c.args.x c.args.place _ c.in-Factor.is (sym c.in-TooFar.is ∙ c.check_against.ensures)

pub returns-in-NotFinite : goal.returns-in-NotFinite
unfolding checked_as
returns-in-NotFinite c = ap Err c.at-in-NotFinite.ensures ∙ as_factor c.args.element _ c.args.x c.args.place _ c.in-Factor.is (sym c.in-NotFinite.is ∙ c.check_against.ensures)

-- what the test has answered
pub returns-in-Value : goal.returns-in-Value
returns-in-Value c =
    c.refuse_if.ensures
    ∙ ap (λ b. answer_of (ask refusal.Value c.args.place (not b) ∷ [])) (c.is_finite.ensures.value ∙ finite_is _)
    ∙ ap (λ e. answer_of (element_asked e c.args.place c.args.x)) (sym c.in-Value.is)
