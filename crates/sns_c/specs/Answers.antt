-- What goes out to C: an answer as a struct of numbers, by the definitions of the public calls. Definitions only.
use Rattle.std.specs.Prelude.{◌≡◌, List, ℕ, Float, Result, Ok, Err}
use Rattle.factor.specs.declared.Checked.{Checked}
use Rattle.sns_check.specs.CheckFactor as check
use Rattle.refusals.specs.declared.Refused.{Refused}
use Rattle.frame_fields.specs.declared.Fields.{Fields}
use Rattle.numbering.specs.declared.Numbered.{Numbered}
use Rattle.refusals.specs.Answers.{Answer, giving, number_in, place_in, kept}
use Rattle.sns_number.specs.Pack.{index_in, sign_in}
use Rattle.encoder.specs.declared.Quantized.{Quantized}
use Rattle.sns_encode.specs.declared.Encoded.{Encoded}
use Rattle.sns_encode.specs.Encode.{encoded_of}
use Rattle.sns_c.specs.declared.Code.{Code}
use Rattle.sns_c.specs.declared.EncodedCode.{EncodedCode}
use Rattle.sns_c.specs.declared.PackedCode.{PackedCode}
use Rattle.sns_c.specs.declared.CheckedCode.{CheckedCode}

-- number and place, 0 and 0 where the call is done
pub record IsCode {A : Type 0} (a : Result A Refused) (r : Code) : Type 0 where
  pub number : r.number ≡ number_in a
  pub place : r.place ≡ place_in a

-- that, and what the lent buffer holds at return, new, where it held old
pub record CodeSays {A : Type 0} (a : Answer) (filled old : List A) (r : Code) (new : List A) : Type 0 where
  pub code : IsCode a r
  pub buffer : new ≡ kept a filled old

-- a refused call's other fields are 0
abbrev pub no_fields : Fields
no_fields = record {
  low_row = 0;
  high_row = 0;
  shape = 0;
  gain = 0;
  sign_a = 0;
  sign_b = 0;
  index_a = 0;
  index_b = 0;
}

abbrev pub fields_given : Result Encoded Refused → Fields
fields_given (Ok e) = e.fields
fields_given (Err refused) = no_fields

abbrev pub joint_given : Result Encoded Refused → ℕ
joint_given (Ok e) = e.joint_index
joint_given (Err refused) = 0

-- number and place, and the encoder's fields and joint index, 0 where the call is refused
pub record IsEncoded (e : Result Encoded Refused) (r : EncodedCode) : Type 0 where
  pub number : r.number ≡ number_in e
  pub place : r.place ≡ place_in e
  pub low_row : r.low_row ≡ (fields_given e).low_row
  pub high_row : r.high_row ≡ (fields_given e).high_row
  pub shape : r.shape ≡ (fields_given e).shape
  pub gain : r.gain ≡ (fields_given e).gain
  pub sign_a : r.sign_a ≡ (fields_given e).sign_a
  pub sign_b : r.sign_b ≡ (fields_given e).sign_b
  pub joint_index : r.joint_index ≡ joint_given e
  pub index_a : r.index_a ≡ (fields_given e).index_a
  pub index_b : r.index_b ≡ (fields_given e).index_b

-- that, and what the sixteen hold at return, new, where they held old
pub record EncodedSays (a : Answer) (q : Quantized) (old : List Float) (r : EncodedCode) (new : List Float) : Type 0 where
  pub encoded : IsEncoded (giving a (encoded_of q)) r
  pub buffer : new ≡ kept a q.stage2.scfq old

-- number and place, and the lead sign and the index, 0 where the call is refused
pub record IsPacked (a : Result Numbered Refused) (r : PackedCode) : Type 0 where
  pub number : r.number ≡ number_in a
  pub place : r.place ≡ place_in a
  pub sign : r.sign ≡ sign_in a
  pub index : r.index ≡ index_in a

-- the number, and the value: the factor itself, the offending one, or 0.0
pub record IsChecked (a : Checked) (r : CheckedCode) : Type 0 where
  pub number : r.number ≡ check.number_of a
  pub value : r.value ≡ check.value_of a

-- the fields, handed over one by one
abbrev pub fields_from : ℕ → ℕ → ℕ → ℕ → ℕ → ℕ → ℕ → ℕ → Fields
fields_from low high shape gain signA signB indexA indexB =
    record {
      low_row = low;
      high_row = high;
      shape = shape;
      gain = gain;
      sign_a = signA;
      sign_b = signB;
      index_a = indexA;
      index_b = indexB;
    }
