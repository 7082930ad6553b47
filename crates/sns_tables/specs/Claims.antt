-- What is proved of the tables, a line a claim. Definitions only: each is proved in proofs/, in the file that its comment names.
use Rattle.std.specs.Prelude.{ℕ, ◌<◌}
use Rattle.float_laws.specs.Size.{Within}
use Rattle.sns_tables.specs.Codebooks.{lfcb_rows, hfcb_rows, code_at}
use Rattle.sns_tables.specs.Rotation.{d_at}
use Rattle.sns_tables.specs.Gains.{gains_of, gain_at}

-- no code is over 5 in size (Sizes)
abbrev pub LowCodesSmall : Type 0
LowCodesSmall = (row place : ℕ) → row < 32 → place < 8 → Within (code_at lfcb_rows row place) 5 1

abbrev pub HighCodesSmall : Type 0
HighCodesSmall = (row place : ℕ) → row < 32 → place < 8 → Within (code_at hfcb_rows row place) 5 1

-- no entry of D is over 361/1024 in size (Sizes)
abbrev pub RotationSmall : Type 0
RotationSmall = (row column : ℕ) → row < 16 → column < 16 → Within (d_at row column) 361 1024

-- no gain is over 21014/4096 in size (Sizes)
abbrev pub GainsSmall : Type 0
GainsSmall = (shape gain : ℕ) → shape < 4 → gain < gains_of shape → Within (gain_at shape gain) 21014 4096
