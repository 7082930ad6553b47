-- The claims of specs/EncodeClaims.antt: the quantizer's, at the call. Assumes nothing.
use mathlib.Core.Path.{◌≡◌, refl, sym, subst}
use mathlib.Core.List.{List}
use Prim.Native.Nat.{ℕ, ◌<◌}
use borrow.Author.Tests.{not-false, eqb-true}
use lib.Dec.{lit<, lit≤}
use lib.ListN.{length, get_or}
use lib.Ieee.{Float, nan}
use Rattle.float_laws.proofs.Size.{within_up}
use Rattle.float_laws.specs.Bounded.{Bounded}
use Rattle.shape_numbers.proofs.Claims.{numbers_indexed, pulses_again}
use Rattle.stage1.specs.Stage1.{residual}
use Rattle.stage2_target.specs.Target.{target_of}
use Rattle.stage2.specs.Stage2.{choice_of, signed_for, result_of, stage2_of}
use Rattle.stage2.proofs.Claims.{none_below}
use Rattle.stage2.proofs.Signs.{signed_shaped}
use Rattle.stage2.proofs.Steps.{chosen_gain}
use Rattle.encoder.specs.Quantized.{quantized_of}
use Rattle.encoder.proofs.Claims.{all_nearest}
use Rattle.encoder.proofs.Inside.{inside}
use Rattle.refusals.specs.Answers.{Done}
use Rattle.sns_encode.specs.Encode.{encode_questions, encode_answer, fields_of}
use Rattle.sns.specs.EncodeClaims.{AllAnswered, NoneBeats, NoGainBeats, DecodesAgain}
use Rattle.sns_decode.proofs.Claims.{decode_takes}
use Rattle.refusals.proofs.Answers.{done}
use Rattle.refusals.proofs.Elements.{within_limit}

pub all_answered : AllAnswered
unfolding quantized_of stage2_of result_of
all_answered factors = record { low = refl; high = refl; shape = refl; gain = refl }

-- factors that are taken are within 64, and so within 512
taken_bounded : (factors : List Float) (len : ℕ) → encode_answer factors len ≡ Done → Bounded 16 512 factors
unfolding encode_questions
taken_bounded factors len e n h =
    let a = done _ 0 _ _ e in
    let b = done _ 0 _ _ a.1 in
    let l = eqb-true (length factors) 16 (not-false _ a.0) in
    within_up (get_or factors n nan) 64 1 512 1 (lit< tt) (lit≤ tt)
    (within_limit factors b.1 n (subst (λ (m : ℕ). n < m) (sym l) h))

pub none_beats : NoneBeats
none_beats factors len e = all_nearest factors (taken_bounded factors len e)

pub no_gain_beats : NoGainBeats
unfolding quantized_of stage2_of result_of
no_gain_beats factors len e shape gain s g = none_below (target_of (residual factors)) (none_beats factors len e).choice shape gain s g

-- ---- decoded again

pub decodes_again : DecodesAgain
unfolding quantized_of stage2_of result_of
decodes_again factors =
    let t = target_of (residual factors) in
    let s = (choice_of t).shape in
    let i = inside factors in
    let h = signed_shaped t s in (
      (decode_takes (fields_of (quantized_of factors)) 16).0
          (record {
            long = refl;
            fields = record {
              tables = record { low_row = i.0; high_row = i.1; shape_below = i.2; gain_below = chosen_gain t };
              indexed = numbers_indexed s (signed_for t s) h;
            };
          }),
      pulses_again s (signed_for t s) h,
    )
