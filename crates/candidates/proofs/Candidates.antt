-- Small steps over the choices. Assumes nothing.
use mathlib.Core.Path.{◌≡◌, ◌∙◌, ap}
use mathlib.Core.List.{List, []}
use Prim.Native.Nat.{ℕ, ◌+◌, ◌-◌, ◌<◌}
use native.Mathlib.Omega.{arith}
use lib.ListN.{get_or}
use lib.Ieee.{Float, nan}
use Rattle.float_laws.specs.Scan.{least_to}
use Rattle.float_laws.proofs.Scan.{least_same}
use Rattle.list_laws.specs.ListOf.{list_of}
use Rattle.list_laws.proofs.ListOf.{get_or_list_of}
use Rattle.sns_tables.specs.Gains.{gains_of}
use Rattle.candidates.specs.Candidate.{distortion_of}
use Rattle.candidates.specs.Scan.{choices, choice_at, gain_of, distortion_at, winner_of}
use Rattle.candidates.proofs.Choices.{choice_shape, choice_gain}
use Rattle.candidates.specs.declared.Choice.{Choice}

-- ---- a choice, as the code reads it
pub shape_room : (k : ℕ) (c : Choice) → c ≡ choice_at k → k < choices → c.shape < 4
shape_room k c e h = rw e (choice_shape k h)

pub gain_room : (k : ℕ) (c : Choice) → c ≡ choice_at k → k < choices → c.gain < gains_of c.shape
gain_room k c e h = rw e (choice_gain k h)

pub distortion_is : (t : List Float) (q : List (List Float)) (gains : List Float) (k : ℕ) (c : Choice) (d : Float) → k < choices → gains ≡ list_of choices gain_of → c ≡ choice_at k
    → d ≡ distortion_of t (get_or q c.shape []) (get_or gains k nan) → d ≡ distortion_at t q k
unfolding distortion_at
distortion_is t q gains k c d h e f g = rw (e, f, get_or_list_of choices gain_of nan k h) at g

-- the least of a list of distortions, of which n is the last place
pub winner_is : (t : List Float) (q : List (List Float)) (d : List Float) (n r : ℕ) → n + 1 ≡ choices → d ≡ list_of choices (distortion_at t q) → r ≡ least_to (λ i. get_or d i nan) n → r ≡ winner_of t q
unfolding winner_of
winner_is t q d n r l e f =
    let last : choices - 1 ≡ n = omega arith in
    rw last (f ∙ least_same _ _ n (λ i h. ap (λ (x : List Float). get_or x i nan) e ∙ get_or_list_of choices _ nan i (omega arith)))
