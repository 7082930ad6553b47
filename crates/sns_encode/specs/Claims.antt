-- What is claimed of encode at the call: pinned, kept, what it takes, and that it depends on the sixteen factors alone. The proofs are in proofs/Claims.antt.
use Rattle.std.specs.Prelude.{◌≡◌, not, List, ℕ, T, length, Float, Result, Err}
use Rattle.float_laws.specs.Kind.{finite}
use Rattle.list_laws.specs.Every.{both, every}
use Rattle.factor.specs.Check.{factor_limit, beyond}
use Rattle.refusals.specs.declared.Refused.{Refused}
use Rattle.refusals.specs.Answers.{Done, number_in}
use Rattle.sns_encode.specs.declared.Encoded.{Encoded}
use Rattle.sns_encode.specs.Encode.{encode_answer, EncodeSays}

-- two results of encode that its statement allows are equal, and so are the buffers
abbrev pub EncodePinned : Type 0
EncodePinned =
    (factors old : List Float) (r r' : Result Encoded Refused) (new new' : List Float)
    → EncodeSays factors old r new → EncodeSays factors old r' new' → (r ≡ r') × (new ≡ new')

-- after a refusal the lent buffer holds what it held
abbrev pub EncodeKeeps : Type 0
EncodeKeeps =
    (factors old : List Float) (r : Result Encoded Refused) (new : List Float) (refused : Refused)
    → EncodeSays factors old r new → r ≡ Err refused → new ≡ old

-- what encode takes: sixteen factors that are finite and not beyond the limit, and sixteen places to fill
pub record EncodeTaken (factors : List Float) (len : ℕ) : Type 0 where
  pub sixteen : length factors ≡ 16
  pub long : len ≡ 16
  pub in_range : T (every (λ x. both (finite x) (not (beyond factor_limit x))) factors)

abbrev pub EncodeTakes : Type 0
EncodeTakes =
    (factors : List Float) (len : ℕ)
    → (EncodeTaken factors len → encode_answer factors len ≡ Done) × (encode_answer factors len ≡ Done → EncodeTaken factors len)

-- where its number is 0 it is done
abbrev pub EncodeZero : Type 0
EncodeZero = (factors : List Float) (len : ℕ) → number_in (encode_answer factors len) ≡ 0 → encode_answer factors len ≡ Done

-- it depends on the sixteen factors alone: whatever two lent buffers held before, the answers are the same, and so is what the buffers hold after
abbrev pub FactorsAlone : Type 0
FactorsAlone =
    (factors old old' : List Float) (r r' : Result Encoded Refused) (new new' : List Float)
    → length old ≡ length old' → EncodeSays factors old r new → EncodeSays factors old' r' new'
    → (r ≡ r') × (encode_answer factors (length old) ≡ Done → new ≡ new')
