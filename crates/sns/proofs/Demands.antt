-- The demands of specs/Demands.antt, each theorem from the file that shows it. Assumes nothing.
use Rattle.numbering.proofs.Claims.{claim}
use Rattle.pulse_search.proofs.Held.{record_ordered}
use Rattle.shape_search.proofs.Held.{searches_held, shapes_held, one_search}
use Rattle.candidates.proofs.Choices.{choices_are, all_tried}
use Rattle.decoder.proofs.Claims.{within_64}
use Rattle.refusals.proofs.Answers as refusals
use Rattle.sns_check.proofs.Claims as check
use Rattle.sns_encode.proofs.Claims as encode
use Rattle.sns_decode.proofs.Claims as decode
use Rattle.sns_interpolate.proofs.Claims as interpolate
use Rattle.sns_shape.proofs.Claims as shape
use Rattle.sns_number.proofs.Claims as number
use Rattle.sns.proofs.EncodeClaims as third
use Rattle.sns.proofs.Alike as alike
use Rattle.sns.specs.Demands.{Answered, Kept, Taken, Numbered, Unbeaten, Alike}

pub answered : Answered
answered =
    record {
      number_above = refusals.number_above;
      number_own = refusals.number_own;
      refused_exactly = refusals.refused_exactly;
      done_exactly = refusals.done_exactly;
      check_pinned = check.check_pinned;
      check_asked = check.check_asked;
      encode_pinned = encode.encode_pinned;
      encode_zero = encode.encode_zero;
      decode_pinned = decode.decode_pinned;
      pulses_pinned = decode.pulses_pinned;
      interpolate_pinned = interpolate.interpolate_pinned;
      shape_pinned = shape.shape_pinned;
      pack_pinned = number.pack_pinned;
      unpack_pinned = number.unpack_pinned;
    }

pub keeps : Kept
keeps =
    record {
      encode_keeps = encode.encode_keeps;
      decode_keeps = decode.decode_keeps;
      pulses_keep = decode.pulses_keep;
      interpolate_keeps = interpolate.interpolate_keeps;
      shape_keeps = shape.shape_keeps;
      unpack_keeps = number.unpack_keeps;
    }

pub takes : Taken
takes =
    record {
      encode_takes = encode.encode_takes;
      decode_takes = decode.decode_takes;
      interpolate_takes = interpolate.interpolate_takes;
      shape_takes = shape.shape_takes;
      unpack_takes = number.unpack_takes;
      pack_takes = number.pack_takes;
    }

pub numbered : Numbered
numbered =
    record {
      any_pair = claim;
      unpack_then_pack = number.unpack_pack;
      pack_then_unpack = number.pack_unpack;
      decoded_within = within_64;
      decode_within = decode.decode_within;
    }

pub unbeaten : Unbeaten
unbeaten =
    record {
      in_all = choices_are;
      all_tried = all_tried;
      none_beats = third.none_beats;
      no_gain_beats = third.no_gain_beats;
      answered = third.all_answered;
      decodes_again = third.decodes_again;
      factors_alone = encode.factors_alone;
      searches_held = searches_held;
      shapes_held = shapes_held;
      one_search = one_search;
      record_ordered = record_ordered;
    }

pub ends_alike : Alike
ends_alike =
    record {
      both_alike = alike.both_alike;
      frames_there = alike.frames_there;
      calls_alike = alike.calls_alike;
      encoded_within = alike.encoded_within;
      encoded_bands = alike.encoded_bands;
      bands_alike = alike.bands_alike;
      lines_alike = alike.lines_alike;
    }
