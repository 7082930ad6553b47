-- The answer to a list of questions, one question at a time. Assumes nothing.
use mathlib.Core.Path.{◌≡◌, refl, sym, ap, ◌∙◌, subst}
use mathlib.Core.Bool.{Bool, true, false, not, cond}
use mathlib.Core.List.{List, [], ◌∷◌, ◌++◌}
use Prim.Native.Nat.{ℕ}
use native.Mathlib.Omega.{arith}
use lib.Dec.{T, eqb, lit<}
use Rattle.std.specs.Prelude.{Ok, Err}
use Rattle.list_laws.specs.Every.{both, every}
use Rattle.list_laws.proofs.Every.{both_left, both_right}
use Rattle.refusals.specs.declared.Refusal.{Refusal}
use Rattle.refusals.specs.declared.Refusal.TheVariants.{Row, Shape, Gain, LeadSign, Index, Pulses, NotFinite, TooFar, Length, RateOrPair, BandCount, Value}
use Rattle.refusals.specs.declared.Refused.{Refused}
use Rattle.refusals.specs.Answers.{number_of, Answer, Done, No, Question, ask, answer_of, number_in}
use Rattle.refusals.specs.Claims.{NumberAbove, NumberOwn, FirstGiven, RefusedExactly, DoneExactly, ZeroDone}

pub number_above : NumberAbove
number_above Row = lit< tt
number_above Shape = lit< tt
number_above Gain = lit< tt
number_above LeadSign = lit< tt
number_above Index = lit< tt
number_above Pulses = lit< tt
number_above NotFinite = lit< tt
number_above TooFar = lit< tt
number_above Length = lit< tt
number_above RateOrPair = lit< tt
number_above BandCount = lit< tt
number_above Value = lit< tt

-- the refusal of a number
numbered_by : ℕ → Refusal
numbered_by n =
    cond (eqb n 1) Row (
    cond (eqb n 2) Shape (
    cond (eqb n 3) Gain (
    cond (eqb n 4) LeadSign (
    cond (eqb n 5) Index (
    cond (eqb n 6) Pulses (
    cond (eqb n 7) NotFinite (
    cond (eqb n 8) TooFar (
    cond (eqb n 9) Length (
    cond (eqb n 10) RateOrPair (
    cond (eqb n 11) BandCount (
    Value)))))))))))

back : (refusal : Refusal) → numbered_by (number_of refusal) ≡ refusal
unfolding numbered_by
back Row = refl
back Shape = refl
back Gain = refl
back LeadSign = refl
back Index = refl
back Pulses = refl
back NotFinite = refl
back TooFar = refl
back Length = refl
back RateOrPair = refl
back BandCount = refl
back Value = refl

pub number_own : NumberOwn
number_own refusal other e = sym (back refusal) ∙ ap numbered_by e ∙ back other

pub none_left : Done ≡ answer_of []
unfolding answer_of
none_left = refl

module _ (refusal : Refusal) (place : ℕ) (b : Bool) (qs : List Question) where
  pub given : b ≡ true → No refusal place ≡ answer_of (ask refusal place b ∷ qs)
  unfolding answer_of
  given e = rw e

  pub not_given : {r : Answer} → b ≡ false → r ≡ answer_of qs → r ≡ answer_of (ask refusal place b ∷ qs)
  unfolding answer_of
  not_given e q = rw (e, q)

pub no_not_done : (refused : Refused) → ◌≡◌ {A = Answer} (Err refused) Done → ⊥
no_not_done refused e = cc

-- done: the question was not given
pub done : (refusal : Refusal) (place : ℕ) (b : Bool) (qs : List Question) → answer_of (ask refusal place b ∷ qs) ≡ Done → (b ≡ false) × (answer_of qs ≡ Done)
unfolding answer_of
done refusal place false qs e = (refl, e)
done refusal place true qs e = absurd (no_not_done _ e)

-- two lists of questions, one after the other: the second is asked where the first is done
abbrev pub and_then : Answer → Answer → Answer
and_then (Ok u) rest = rest
and_then (Err refused) rest = Err refused

pub appended : (qs rest : List Question) → answer_of (qs ++ rest) ≡ and_then (answer_of qs) (answer_of rest)
unfolding answer_of
appended [] rest = refl
appended (q ∷ qs) rest = by q.given (appended qs rest)
  where
    by : (b : Bool) → answer_of (qs ++ rest) ≡ and_then (answer_of qs) (answer_of rest)
        → cond b (No q.refusal q.place) (answer_of (qs ++ rest)) ≡ and_then (cond b (No q.refusal q.place) (answer_of qs)) (answer_of rest)
    by true e = refl
    by false e = e

-- where the first questions are passed, the rest is the answer
pub all_pass : {said r : Answer} (qs rest : List Question) → said ≡ Done → said ≡ answer_of qs → r ≡ answer_of rest → r ≡ answer_of (qs ++ rest)
all_pass qs rest e f g = g ∙ ap (λ a. and_then a (answer_of rest)) (sym e ∙ f) ∙ sym (appended qs rest)

pub both_done : (qs rest : List Question) → answer_of (qs ++ rest) ≡ Done → (answer_of qs ≡ Done) × (answer_of rest ≡ Done)
both_done qs rest e = by (answer_of qs) (sym (appended qs rest) ∙ e)
  where
    by : (a : Answer) → and_then a (answer_of rest) ≡ Done → (a ≡ Done) × (answer_of rest ≡ Done)
    by (Ok u) h = (refl, h)
    by (Err refused) h = absurd (no_not_done refused h)

-- refused: the first question that is given

passed_over : (b : Bool) (refused other : Answer) → T (not b) → cond b refused other ≡ other
passed_over true refused other t = absurd t
passed_over false refused other t = refl

skipped : (before rest : List Question) → T (every (λ (q : Question). not q.given) before) → answer_of (before ++ rest) ≡ answer_of rest
unfolding answer_of
skipped [] rest t = refl
skipped (q ∷ before) rest t =
    passed_over q.given _ _ (both_left (not q.given) (every (λ (p : Question). not p.given) before) t)
    ∙ skipped before rest (both_right (not q.given) (every (λ (p : Question). not p.given) before) t)

same : (q : Question) (refusal : Refusal) (place : ℕ) → No q.refusal q.place ≡ No refusal place → q.given ≡ true → q ≡ ask refusal place true
same q refusal place e g =
    let r : ◌≡◌ {A = Refused} (record { refusal = q.refusal; place = q.place }) (record { refusal = refusal; place = place }) = cc in
    rw (← ap (λ (x : Refused). x.refusal) r, ← ap (λ (x : Refused). x.place) r, ← g)

more : (b : Bool) (rest : Bool) → b ≡ false → T rest → T (both (not b) rest)
more b rest e t = subst (λ (x : Bool). T (both (not x) rest)) (sym e) t

first : (refusal : Refusal) (place : ℕ) (qs : List Question) → answer_of qs ≡ No refusal place → FirstGiven qs refusal place
unfolding answer_of
first refusal place [] e = absurd (no_not_done _ (sym e))
first refusal place (q ∷ qs) e = go q.given refl e (first refusal place qs)
  where
    go : (b : Bool) → q.given ≡ b → cond b (No q.refusal q.place) (answer_of qs) ≡ No refusal place
        → (answer_of qs ≡ No refusal place → FirstGiven qs refusal place) → FirstGiven (q ∷ qs) refusal place
    go true g z rest =
        record {
          before = [];
          after = qs;
          split = ap (λ p. p ∷ qs) (same q refusal place z g);
          none_before = tt;
        }
    go false g z rest =
        let f = rest z in
        record {
          before = q ∷ f.before;
          after = f.after;
          split = ap (λ ps. q ∷ ps) f.split;
          none_before = more q.given _ g f.none_before;
        }

pub refused_exactly : RefusedExactly
refused_exactly qs refusal place = (there, first refusal place qs)
  where
    there : FirstGiven qs refusal place → answer_of qs ≡ No refusal place
    there f =
        ap answer_of f.split
        ∙ skipped f.before (ask refusal place true ∷ f.after) f.none_before
        ∙ sym (given refusal place true f.after refl)

pub not_yes : (b : Bool) → T (not b) → b ≡ false
not_yes true t = absurd t
not_yes false t = refl

-- done: no question is given
pub done_exactly : DoneExactly
done_exactly qs = (there qs, back qs)
  where
    there : (qs : List Question) → T (every (λ (q : Question). not q.given) qs) → answer_of qs ≡ Done
    there [] t = sym none_left
    there (q ∷ qs) t =
        let rest = every (λ (p : Question). not p.given) qs in
        sym (not_given q.refusal q.place q.given qs (not_yes q.given (both_left (not q.given) rest t)) (sym (there qs (both_right (not q.given) rest t))))

    back : (qs : List Question) → answer_of qs ≡ Done → T (every (λ (q : Question). not q.given) qs)
    back [] e = tt
    back (q ∷ qs) e = let d = done q.refusal q.place q.given qs e in more q.given _ d.0 (back qs d.1)

pub zero_done : ZeroDone
zero_done qs = by (answer_of qs)
  where
    by : (a : Answer) → number_in a ≡ 0 → a ≡ Done
    by (Ok u) e = refl
    by (Err refused) e = absurd (omega (arith, e, number_above refused.refusal))
