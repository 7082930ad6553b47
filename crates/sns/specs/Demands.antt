-- The demands on the public calls, each a record of theorems. The proofs are in proofs/Demands.antt; the contracts of the calls, each in
-- its own crate, say that the code does what these definitions say, for every input, with nothing asked of the caller. Definitions only.
use Rattle.numbering.specs.Claims as numbering
use Rattle.pulse_search.specs.Claims as pulses
use Rattle.shape_search.specs.Claims as shapes
use Rattle.candidates.specs.Claims as candidates
use Rattle.decoder.specs.Claims as decoder
use Rattle.refusals.specs.Claims as refusals
use Rattle.sns_check.specs.Claims as check
use Rattle.sns_encode.specs.Claims as encode
use Rattle.sns_decode.specs.Claims as decode
use Rattle.sns_interpolate.specs.Claims as interpolate
use Rattle.sns_shape.specs.Claims as shape
use Rattle.sns_number.specs.Claims as number
use Rattle.sns.specs.EncodeClaims as third
use Rattle.sns.specs.Alike as alike

-- 1. Any numbers and any buffers get an answer. Each refusal has a number above 0, and one of its own. A call is refused with the first of
-- its questions that is given, always then and only then, and done exactly when none is; two results that a call's statement allows are
-- equal, and so are the buffers; one factor has the number that it has in a row of factors; encode has the number 0 only where it is done.
pub record Answered : Type 0 where
  pub number_above : refusals.NumberAbove
  pub number_own : refusals.NumberOwn
  pub refused_exactly : refusals.RefusedExactly
  pub done_exactly : refusals.DoneExactly
  pub check_pinned : check.CheckPinned
  pub check_asked : check.CheckAsked
  pub encode_pinned : encode.EncodePinned
  pub encode_zero : encode.EncodeZero
  pub decode_pinned : decode.DecodePinned
  pub pulses_pinned : decode.PulsesPinned
  pub interpolate_pinned : interpolate.InterpolatePinned
  pub shape_pinned : shape.ShapePinned
  pub pack_pinned : number.PackPinned
  pub unpack_pinned : number.UnpackPinned

-- after a refusal each lent buffer holds what it held
pub record Kept : Type 0 where
  pub encode_keeps : encode.EncodeKeeps
  pub decode_keeps : decode.DecodeKeeps
  pub pulses_keep : decode.PulsesKeep
  pub interpolate_keeps : interpolate.InterpolateKeeps
  pub shape_keeps : shape.ShapeKeeps
  pub unpack_keeps : number.UnpackKeeps

-- and what each call takes, both ways
pub record Taken : Type 0 where
  pub encode_takes : encode.EncodeTakes
  pub decode_takes : decode.DecodeTakes
  pub interpolate_takes : interpolate.InterpolateTakes
  pub shape_takes : shape.ShapeTakes
  pub unpack_takes : number.UnpackTakes
  pub pack_takes : number.PackTakes

-- 2. Numbering and its reverse undo each other for the four pairs, through the public calls; all decoded factors lie within 64, of
-- accepted fields and of every call of decode that is done.
pub record Numbered : Type 0 where
  pub any_pair : numbering.Claim
  pub unpack_then_pack : number.UnpackThenPack
  pub pack_then_unpack : number.PackThenUnpack
  pub decoded_within : decoder.Within64
  pub decode_within : decode.DecodeWithin

-- 3. None of the 18 scanned choices, each shape with each gain that the tables hold, beats the answer; decoded again it gives the winner's
-- very pulses; it depends on the sixteen factors alone. The shapes are sought with the pair that belongs to the pulses placed, after every pulse.
pub record Unbeaten : Type 0 where
  pub in_all : candidates.InAll
  pub all_tried : candidates.AllTried
  pub none_beats : third.NoneBeats
  pub no_gain_beats : third.NoGainBeats
  pub answered : third.AllAnswered
  pub decodes_again : third.DecodesAgain
  pub factors_alone : encode.FactorsAlone
  pub searches_held : shapes.SearchesHeld
  pub shapes_held : shapes.ShapesHeld
  pub one_search : shapes.OneSearch
  pub record_ordered : pulses.RecordOrdered

-- Both ends shape alike: the sixteen factors from the encoder equal, bit for bit, those the decoder makes from its answer, and what encode
-- leaves is what decode of its answer leaves, whatever both buffers held, for all factors that encode takes. They lie within 11, so interpolate takes them; and the bands, and the
-- lines that are shaped by gains made of them by one rule, are equal at both ends.
pub record Alike : Type 0 where
  pub both_alike : alike.BothAlike
  pub frames_there : alike.FramesThere
  pub calls_alike : alike.CallsAlike
  pub encoded_within : alike.EncodedWithin
  pub encoded_bands : alike.EncodedBands
  pub bands_alike : alike.BandsAlike
  pub lines_alike : alike.LinesAlike
