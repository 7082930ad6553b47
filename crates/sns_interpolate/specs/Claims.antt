-- What is claimed of interpolate. The proofs are in proofs/Claims.antt.
use Rattle.std.specs.Prelude.{◌≡◌, true, not, List, ℕ, T, length, Float}
use Rattle.float_laws.specs.Kind.{finite}
use Rattle.list_laws.specs.Every.{both, every}
use Rattle.factor.specs.Check.{beyond}
use Rattle.interpolation.specs.Bands.{band_limit, count_ok}
use Rattle.refusals.specs.Answers.{Answer, Done}
use Rattle.sns_interpolate.specs.Interpolate.{interpolate_answer, InterpolateSays}
use Rattle.refusals.specs.Claims.{Keeps}

abbrev pub InterpolatePinned : Type 0
InterpolatePinned =
    (factors : List Float) (count : ℕ) (old : List Float) (r r' : Answer) (new new' : List Float)
    → InterpolateSays factors count old r new → InterpolateSays factors count old r' new' → (r ≡ r') × (new ≡ new')

abbrev pub InterpolateKeeps : Type 0
InterpolateKeeps = (factors : List Float) (count : ℕ) → Keeps (InterpolateSays factors count)

-- what interpolate takes: 60 or 64 bands, as many as are lent, and sixteen factors that are finite and not beyond the limit
pub record InterpolateTaken (factors : List Float) (count len : ℕ) : Type 0 where
  pub count_ok : count_ok count ≡ true
  pub sixteen : length factors ≡ 16
  pub long : len ≡ count
  pub in_range : T (every (λ x. both (finite x) (not (beyond band_limit x))) factors)

abbrev pub InterpolateTakes : Type 0
InterpolateTakes =
    (factors : List Float) (count len : ℕ)
    → (InterpolateTaken factors count len → interpolate_answer factors count len ≡ Done)
    × (interpolate_answer factors count len ≡ Done → InterpolateTaken factors count len)
