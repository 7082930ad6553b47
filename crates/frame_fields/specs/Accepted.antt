-- What makes a frame's fields accepted. Definitions only.
use Rattle.std.specs.Prelude.{◌≡◌, Bool, ℕ, ◌<◌, eqb}
use Rattle.sns_tables.specs.Gains.{gains_of}
use Rattle.shapes.specs.Sets.{set_a, set_b}
use Rattle.frame_fields.specs.declared.Fields.{Fields}
use Rattle.frame_fields.specs.declared.Numbers.{Numbers}

-- Shapes 1 to 3 don't look at B's sign and index: set B is in use in shape 0.
abbrev pub uses_b : ℕ → Bool
uses_b shape = eqb shape 0

-- rows, shape and gain within their tables
pub record InTables (low high shape gain : ℕ) : Type 0 where
  pub low_row : low < 32
  pub high_row : high < 32
  pub shape_below : shape < 4
  pub gain_below : gain < gains_of shape

-- signs and indices in use are below their ends: set A's, and set B's in shape 0
pub record Indexed (shape : ℕ) (n : Numbers) : Type 0 where
  pub sign_a : n.sign_a < 2
  pub sign_b : shape ≡ 0 → n.sign_b < 2
  pub index_a : n.index_a < (set_a shape).size
  pub index_b : shape ≡ 0 → n.index_b < set_b.size

-- the numbers among a frame's fields
abbrev pub numbers_in : Fields → Numbers
numbers_in f = record { sign_a = f.sign_a; sign_b = f.sign_b; index_a = f.index_a; index_b = f.index_b }

-- fields that the decoder takes
pub record Accepted (f : Fields) : Type 0 where
  pub tables : InTables f.low_row f.high_row f.shape f.gain
  pub indexed : Indexed f.shape (numbers_in f)
