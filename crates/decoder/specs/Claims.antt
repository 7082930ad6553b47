-- What is claimed of decoded fields. The proofs are in proofs/Claims.antt.
use Rattle.std.specs.Prelude.{ℕ, ◌<◌, get_or}
use Rattle.std.specs.Float.{nan}
use Rattle.float_laws.specs.Size.{Within}
use Rattle.frame_fields.specs.declared.Fields.{Fields}
use Rattle.frame_fields.specs.Accepted.{Accepted}
use Rattle.decoder.specs.Decoded.{field_factors}

-- all sixteen decoded factors are finite and within plus or minus a whole number
abbrev pub DecodedWithin : ℕ → Type 0
DecodedWithin top = (f : Fields) → Accepted f → (n : ℕ) → n < 16 → Within (get_or (field_factors f) n nan) top 1

-- THE CLAIM: all sixteen decoded factors lie within plus or minus 64
abbrev pub Within64 : Type 0
Within64 = DecodedWithin 64

-- and within plus or minus 11
abbrev pub Within11 : Type 0
Within11 = DecodedWithin 11
