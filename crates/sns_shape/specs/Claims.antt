-- What is claimed of shape. The proofs are in proofs/Claims.antt.
use Rattle.std.specs.Prelude.{◌≡◌, Bool, List, ℕ, ◌≤◌, T, length, take, Float}
use Rattle.float_laws.specs.Kind.{finite}
use Rattle.list_laws.specs.Every.{every}
use Rattle.band_index_tables.specs.Bands.{bands_of, last_limit}
use Rattle.refusals.specs.Answers.{Answer, Done}
use Rattle.sns_shape.specs.Shape.{shape_answer, ShapeSays}
use Rattle.refusals.specs.Claims.{Keeps}

abbrev pub ShapePinned : Type 0
ShapePinned =
    (rate : ℕ) (ten : Bool) (count : ℕ) (gains old : List Float) (r r' : Answer) (new new' : List Float)
    → ShapeSays rate ten count gains old r new → ShapeSays rate ten count gains old r' new' → (r ≡ r') × (new ≡ new')

abbrev pub ShapeKeeps : Type 0
ShapeKeeps = (rate : ℕ) (ten : Bool) (count : ℕ) (gains : List Float) → Keeps (ShapeSays rate ten count gains)

-- what shape takes: a rate, its band count, that many gains, no fewer lines than the last limit; the gains and the lines below it finite
pub record ShapeTaken (rate : ℕ) (ten : Bool) (count : ℕ) (gains lines : List Float) : Type 0 where
  pub rate_most : rate ≤ 4
  pub count_is : count ≡ bands_of rate ten
  pub gain_count : length gains ≡ count
  pub line_count : last_limit rate ten ≤ length lines
  pub gains_finite : T (every finite gains)
  pub lines_finite : T (every finite (take (last_limit rate ten) lines))

abbrev pub ShapeTakes : Type 0
ShapeTakes =
    (rate : ℕ) (ten : Bool) (count : ℕ) (gains lines : List Float)
    → (ShapeTaken rate ten count gains lines → shape_answer rate ten count gains lines ≡ Done)
    × (shape_answer rate ten count gains lines ≡ Done → ShapeTaken rate ten count gains lines)
