-- What is claimed of synthesis from two rows. The proofs are in proofs/Within.antt.
use Rattle.std.specs.Prelude.{List, ℕ, ◌<◌, ℤ, get_or}
use Rattle.std.specs.Float.{nan}
use Rattle.float_laws.specs.Size.{Within}
use Rattle.synthesis.specs.Synthesis.{Synthesisable, factors_of}

-- all sixteen factors of what is synthesised are finite and within plus or minus 11
abbrev pub FactorsWithin11 : Type 0
FactorsWithin11 = (low high shape gain : ℕ) (y : List ℤ) → Synthesisable low high shape gain y → (n : ℕ) → n < 16 → Within (get_or (factors_of low high shape gain y) n nan) 11 1
