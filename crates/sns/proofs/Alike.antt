-- The claims of specs/Alike.antt: the quantizer's, at the calls. Assumes nothing.
use mathlib.Core.Path.{◌≡◌, refl, sym, ap, ◌∙◌, subst}
use mathlib.Core.Bool.{true, not}
use mathlib.Core.List.{List}
use Prim.Native.Nat.{ℕ, ◌<◌}
use lib.Dec.{T, lit<, lit≤}
use lib.IntN.{pos}
use lib.ListN.{length, get_or}
use lib.Ieee.{Float, nan}
use Rattle.float_laws.specs.Decimal.{plus}
use Rattle.float_laws.specs.Kind.{finite}
use Rattle.float_laws.specs.Size.{Within}
use Rattle.float_laws.proofs.Size.{within_finite, within_up}
use Rattle.list_laws.specs.Every.{both}
use Rattle.list_laws.proofs.Every.{both_are, all}
use Rattle.list_laws.proofs.ListOf.{length_list_of}
use Rattle.factor.specs.Check.{beyond}
use Rattle.factor.proofs.Laws.{not_beyond}
use Rattle.stage2.specs.Stage2.{result_of, stage2_of}
use Rattle.encoder.specs.Quantized.{quantized_of}
use Rattle.encoder.proofs.Claims.{factors_of_answer}
use Rattle.frame_fields.specs.Accepted.{Accepted}
use Rattle.decoder.specs.Decoded.{field_factors}
use Rattle.decoder.proofs.Claims.{within_11}
use Rattle.interpolation.specs.Bands.{count_ok, band_limit, interpolated}
use Rattle.refusals.proofs.Pinned.{fills}
use Rattle.refusals.specs.Answers.{Answer, Done, giving, kept}
use Rattle.sns_encode.specs.Encode.{fields_of, encoded_of}
use Rattle.sns_encode.proofs.Claims.{encode_fills}
use Rattle.sns_decode.specs.Decode.{decode_answer}
use Rattle.sns_decode.proofs.Claims.{decode_takes}
use Rattle.sns_interpolate.specs.Interpolate.{interpolate_answer, InterpolateSays}
use Rattle.sns_interpolate.proofs.Claims.{interpolate_takes}
use Rattle.sns_shape.specs.Shape.{ShapeSays}
use Rattle.sns_shape.proofs.Claims.{shape_pinned}
use Rattle.sns.specs.Alike.{BothAlike, EncodedWithin, EncodedBands, Frame, FramesThere, CallsAlike, BandsAlike, LinesAlike}
use Rattle.sns.proofs.EncodeClaims.{decodes_again}

pub both_alike : BothAlike
both_alike = factors_of_answer

-- ---- the size of the factors
module _ (factors : List Float) where
  taken : Accepted (fields_of (quantized_of factors))
  taken = ((decode_takes (fields_of (quantized_of factors)) 16).1 (decodes_again factors).0).fields

  within : (n : ℕ) → n < 16 → Within (get_or (quantized_of factors).stage2.scfq n nan) 11 1
  within n h = subst (λ (xs : List Float). Within (get_or xs n nan) 11 1) (sym (both_alike factors)) (within_11 (fields_of (quantized_of factors)) taken n h)

  sixteen : length (quantized_of factors).stage2.scfq ≡ 16
  unfolding quantized_of stage2_of result_of
  sixteen = length_list_of 16 _

pub encoded_within : EncodedWithin
encoded_within = within

-- a factor within 11 is taken by interpolate
in_bands : (x : Float) → Within x 11 1 → T (both (finite x) (not (beyond band_limit x)))
unfolding band_limit plus
in_bands x h = both_are (finite x) (not (beyond band_limit x)) (within_finite x 11 1 h) (not_beyond 1 (pos 6) x (within_up x 11 1 64 1 (lit< tt) (lit≤ tt) h))

pub encoded_bands : EncodedBands
encoded_bands factors count c =
    (interpolate_takes (quantized_of factors).stage2.scfq count count).0
    (record {
      count_ok = c;
      sixteen = sixteen factors;
      long = refl;
      in_range =
          all nan (λ (x : Float). both (finite x) (not (beyond band_limit x))) (quantized_of factors).stage2.scfq
          (λ k h. in_bands (get_or (quantized_of factors).stage2.scfq k nan) (within factors k (subst (λ (m : ℕ). k < m) (sixteen factors) h)));
    })

-- ---- at the calls
pub frames_there : FramesThere
frames_there factors old other e l =
    let q = quantized_of factors in
    let f : Frame factors q.stage2.scfq q.stage2.scfq =
    record {
      encoded = encoded_of q;
      decoded = Done;
      old = old;
      other = other;
      encodes = (ap (λ a. giving a (encoded_of q)) (sym e), ap (λ a. kept a q.stage2.scfq old) (sym e));
      sixteen = l;
      decodes = (rw l (sym (decodes_again factors).0), both_alike factors);
    } in
    (q.stage2.scfq, q.stage2.scfq, f, refl, refl)

pub calls_alike : CallsAlike
calls_alike factors sent got f =
    let e = encode_fills factors f.old f.encoded sent f.encodes in
    let i : f.encoded.fields ≡ fields_of (quantized_of factors) = ap (λ r. r.fields) e.0 in
    let d = fills (decode_answer f.encoded.fields (length f.other)) (field_factors f.encoded.fields) f.other f.decoded got f.decodes (rw (i, f.sixteen) (decodes_again factors).0) in
    (d.0, e.1 ∙ both_alike factors ∙ sym (ap field_factors i) ∙ sym d.1)

-- one end: what encode leaves, interpolated
one_end : (factors sent : List Float) (count : ℕ) (old : List Float) (a : Answer) (bands : List Float) → sent ≡ (quantized_of factors).stage2.scfq → count_ok count ≡ true → length old ≡ count
    → InterpolateSays sent count old a bands → (a ≡ Done) × (bands ≡ interpolated (quantized_of factors).stage2.scfq count)
one_end factors sent count old a bands e c l s =
    let r = fills (interpolate_answer sent count (length old)) (interpolated sent count) old a bands s (rw (e, l) (encoded_bands factors count c)) in
    (r.0, r.1 ∙ ap (λ (xs : List Float). interpolated xs count) e)

pub bands_alike : BandsAlike
bands_alike factors count bands bands' b =
    let f = b.frame in
    let e = (encode_fills factors f.old f.encoded b.sent f.encodes).1 in
    let s = (calls_alike factors b.sent b.got f).1 in
    let here = one_end factors b.sent count b.old b.answer bands e b.count_ok b.long b.here in
    let there = one_end factors b.got count b.old' b.answer' bands' (sym s ∙ e) b.count_ok b.long' b.there in
    (here.0, there.0, here.1 ∙ sym there.1)

pub lines_alike : LinesAlike
lines_alike factors count bands bands' b gains rate ten old r r' new new' p q =
    let e = (bands_alike factors count bands bands' b).2 in
    shape_pinned rate ten count (gains bands') old r r' new new' (subst (λ (xs : List Float). ShapeSays rate ten count (gains xs) old r new) e p) q
