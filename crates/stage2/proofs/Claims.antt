-- The claims of stage 2, from those of its parts. Assumes nothing.
use mathlib.Core.Path.{◌≡◌, refl, sym, ap, subst}
use mathlib.Core.Bool.{not}
use mathlib.Core.List.{List}
use Prim.Native.Nat.{ℕ}
use lib.Dec.{T}
use lib.Ieee.{Float, lt}
use Rattle.float_laws.specs.Bounded.{AllFinite, Bounded}
use Rattle.float_laws.proofs.Size.{bounded_finite}
use Rattle.frame_fields.proofs.Joint.{joint_within}
use Rattle.shape_numbers.proofs.Claims.{numbers_indexed, pulses_again}
use Rattle.pulse_length.proofs.Squares.{shaped_sixteen}
use Rattle.synthesis.specs.Synthesis.{from_codes}
use Rattle.stage2_target.specs.Target.{target_of, absolutes_of}
use Rattle.stage2_target.proofs.Claims.{target_bounded, absolutes_bounded}
use Rattle.shape_search.proofs.Sized.{searches_finite}
use Rattle.candidates.specs.declared.Choice.{Choice}
use Rattle.candidates.specs.Scan.{choice_at, gain_of, distortion_at, winner_of}
use Rattle.candidates.specs.Claims.{Comparable}
use Rattle.candidates.proofs.Choices.{all_tried}
use Rattle.candidates.proofs.Claims.{units, winner_first, winner_only}
use Rattle.stage2.specs.Stage2.{signed_for, candidates_of, choice_of, result_of, stage2_of}
use Rattle.stage2.specs.Claims.{ChoiceFirst, ChoiceOnly, distortion_with, NoneBelow, Unpacks, FactorsAgain, JointTops, ResidualNoNan}
use Rattle.stage2.proofs.Steps.{candidate_at}
use Rattle.stage2.proofs.Signs.{signed_shaped}

comparable : (t : List Float) → AllFinite 16 t → Comparable t (candidates_of t)
comparable t h = record { target = h; units = λ s l. subst (Bounded 16 1) (sym (candidate_at t s l)) (units (signed_for t s) (shaped_sixteen s (signed_for t s) (signed_shaped t s))) }

pub choice_first : ChoiceFirst
choice_first t h = record { choice = winner_of t (candidates_of t); is = unfold choice_of in refl; first = winner_first t (candidates_of t) (comparable t h) }

pub choice_only : ChoiceOnly
unfolding choice_of
choice_only t h i f = ap choice_at (winner_only t (candidates_of t) (comparable t h) i f)

-- a choice's distortion, by its shape and its gain
distortion_with_lem : (t : List Float) (i : ℕ) (c : Choice) → choice_at i ≡ c → distortion_at t (candidates_of t) i ≡ distortion_with t c.shape c.gain
unfolding distortion_at gain_of
distortion_with_lem t i c e = ap (λ (c : Choice). distortion_with t c.shape c.gain) e

pub none_below : NoneBelow
none_below t f shape gain s g =
    let w = all_tried shape gain s g in
    subst (λ (d : Float). T (not (lt d (distortion_with t (choice_of t).shape (choice_of t).gain)))) (distortion_with_lem t w.choice (record { shape = shape; gain = gain }) w.is)
    (subst (λ (d : Float). T (not (lt (distortion_at t (candidates_of t) w.choice) d))) (distortion_with_lem t f.choice (choice_of t) (sym f.is))
    (f.first.least w.choice w.below))

pub winner_unpacks : Unpacks
unfolding stage2_of result_of
winner_unpacks residual code = let t = target_of residual in let s = (choice_of t).shape in pulses_again s (signed_for t s) (signed_shaped t s)

pub factors_again : FactorsAgain
unfolding stage2_of result_of
factors_again residual code = ap (from_codes code (stage2_of residual code).shape_j (stage2_of residual code).gind) (sym (winner_unpacks residual code))

pub joint_tops : JointTops
unfolding stage2_of result_of
joint_tops residual code =
    let t = target_of residual in
    let c = choice_of t in
    joint_within c.shape c.gain _ (numbers_indexed c.shape (signed_for t c.shape) (signed_shaped t c.shape))

pub residual_no_nan : ResidualNoNan
residual_no_nan residual B =
    let t = target_of residual in
    let b = target_bounded residual B in
    (searches_finite (absolutes_of t) (absolutes_bounded 16384 t b), comparable t (bounded_finite 16 16384 t b))
