-- A call's answer is an equation, and so is what a buffer holds; a refusal keeps it, and a call that is done fills it. Assumes nothing.
use mathlib.Core.Path.{◌≡◌, sym, ap, ◌∙◌}
use mathlib.Core.List.{List}
use Rattle.std.specs.Prelude.{Err}
use Rattle.refusals.specs.declared.Refused.{Refused}
use Rattle.refusals.specs.Answers.{Answer, Done, kept}

pub pinned : {A : Type 0} (answer : Answer) (filled old : List A) {r r' : Answer} {new new' : List A}
    → (r ≡ answer) × (new ≡ kept r filled old) → (r' ≡ answer) × (new' ≡ kept r' filled old) → (r ≡ r') × (new ≡ new')
pinned answer filled old (p, q) (p', q') = let e = p ∙ sym p' in (e, q ∙ ap (λ a. kept a filled old) e ∙ sym q')

pub keeps : {A : Type 0} (answer : Answer) (filled old : List A) (r : Answer) (new : List A) (refused : Refused) → (r ≡ answer) × (new ≡ kept r filled old) → r ≡ Err refused → new ≡ old
keeps answer filled old r new refused (p, q) e = q ∙ ap (λ a. kept a filled old) e

pub fills : {A : Type 0} (answer : Answer) (filled old : List A) (r : Answer) (new : List A) → (r ≡ answer) × (new ≡ kept r filled old) → answer ≡ Done → (r ≡ Done) × (new ≡ filled)
fills answer filled old r new (p, q) e = (p ∙ e, q ∙ ap (λ a. kept a filled old) (p ∙ e))
