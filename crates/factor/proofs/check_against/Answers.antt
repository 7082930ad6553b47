-- A factor that is beyond the limit is a number or an infinity, and one that is not is a number or a NaN: an infinity is beyond every finite limit.
use mathlib.Core.Path.{◌≡◌, refl, sym, ◌∙◌}
use mathlib.Core.Bool.{Bool, true, false, false≢true, cond}
use lib.Dec.{T}
use lib.Ieee.{Float, nan, inf, fin, is_nan, lt, neg}
use Rattle.float_laws.specs.Kind.{finite}
use Rattle.factor.specs.Check.{beyond, checked_of}
use Rattle.factor.specs.declared.Checked.TheVariants.{NotFinite, TooFar}
use Rattle.factor.proofs.Laws.{finite_is}
use Rattle.factor.proofs.check_against.Goals as goal
use Rattle.factor.proofs.check_against.Goals.{then-x-limit-via-then-x-limit, then-x-limit-via-else-x-limit+then-x-limit-2}

above : (limit x : Float) → lt limit x ≡ true → beyond limit x ≡ true
above limit x h = rw h

below : (limit x : Float) → lt limit x ≡ false → lt x (neg limit) ≡ true → beyond limit x ≡ true
below limit x h k = rw (h, k)

when_beyond : (limit x : Float) (f : Bool) → beyond limit x ≡ true → f ≡ finite x → cond f (TooFar x) NotFinite ≡ checked_of limit x
when_beyond limit x f h e = rw (h, e)

-- not beyond
no_number : (x : Float) → is_nan x ≡ true → finite x ≡ false
unfolding is_nan
no_number nan h = refl
no_number (inf s) h = refl
no_number (fin s m e) h = absurd (false≢true h)

number : (limit x : Float) → T (finite limit) → is_nan x ≡ false → lt limit x ≡ false → lt x (neg limit) ≡ false → finite x ≡ true
unfolding is_nan lt neg
number limit nan f n h k = absurd (false≢true (sym n))
number nan (inf s) f n h k = absurd f
number (inf t) (inf s) f n h k = absurd f
number (fin t m e) (inf true) f n h k = absurd (false≢true (sym k))
number (fin t m e) (inf false) f n h k = absurd (false≢true (sym h))
number limit (fin s m e) f n h k = refl

pub returns-then-is_finite : goal.returns-then-is_finite
returns-then-is_finite c =
    let b : beyond c.args.limit c.args.x ≡ true = elim c.then-x-limit.branch [
      | then-x-limit-via-then-x-limit w ↦ above _ _ w.if-x-limit.true
      | then-x-limit-via-else-x-limit+then-x-limit-2 w ↦ below _ _ w.if-x-limit.false w.if-x-limit-2.true
    ] in
    when_beyond _ _ true b (sym c.if-is_finite.true ∙ c.is_finite.ensures.value ∙ finite_is _)

pub returns-else-is_finite : goal.returns-else-is_finite
returns-else-is_finite c =
    let b : beyond c.args.limit c.args.x ≡ true = elim c.then-x-limit.branch [
      | then-x-limit-via-then-x-limit w ↦ above _ _ w.if-x-limit.true
      | then-x-limit-via-else-x-limit+then-x-limit-2 w ↦ below _ _ w.if-x-limit.false w.if-x-limit-2.true
    ] in
    when_beyond _ _ false b (sym c.if-is_finite.false ∙ c.is_finite.ensures.value ∙ finite_is _)

pub returns-then-is_nan : goal.returns-then-is_nan
returns-then-is_nan c = rw (no_number c.args.x (sym c.is_nan.ensures.value ∙ c.if-is_nan.true)) refl

pub returns-else-is_nan : goal.returns-else-is_nan
returns-else-is_nan c =
    rw (number c.args.limit c.args.x c.requires (sym c.is_nan.ensures.value ∙ c.if-is_nan.false) c.if-x-limit.false c.if-x-limit-2.false, c.if-x-limit.false, c.if-x-limit-2.false) refl
