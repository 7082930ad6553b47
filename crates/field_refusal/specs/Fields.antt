-- The decoder's fields, and when they are refused. Definitions only.
use Rattle.std.specs.Prelude.{◌&&◌, List, [], ◌∷◌, leb, ltb}
use Rattle.sns_tables.specs.Gains.{gains_of}
use Rattle.shapes.specs.Sets.{set_a, set_b}
use Rattle.frame_fields.specs.declared.Fields.{Fields}
use Rattle.frame_fields.specs.Accepted.{uses_b}
use Rattle.refusals.specs.declared.Refusal.TheVariants.{Row, Shape, Gain, LeadSign, Index}
use Rattle.refusals.specs.Answers.{Question, ask}

-- 1: a codebook row is over 31 (low, high). 2: the shape is over 3. 3: the gain is over 1, 3, 3, 7 for shapes 0 to 3.
-- 4: a lead sign in use is neither 0 nor 1 (A, B). 5: an index in use is at or above its size (A, B).
unfoldable pub field_questions : Fields → List Question
field_questions f =
    ask Row 0 (ltb 31 f.low_row) ∷
    ask Row 1 (ltb 31 f.high_row) ∷
    ask Shape 0 (ltb 3 f.shape) ∷
    ask Gain 0 (leb (gains_of f.shape) f.gain) ∷
    ask LeadSign 0 (leb 2 f.sign_a) ∷
    ask LeadSign 1 (uses_b f.shape && leb 2 f.sign_b) ∷
    ask Index 0 (leb (set_a f.shape).size f.index_a) ∷
    ask Index 1 (uses_b f.shape && leb set_b.size f.index_b) ∷
    []
