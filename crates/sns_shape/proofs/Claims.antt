-- The claims of specs/Claims.antt. Assumes nothing.
use mathlib.Core.Path.{◌≡◌, sym}
use borrow.Author.Tests.{not-false, eqb-true, ltb-false}
use Rattle.interpolation.specs.Bands.{count_ok}
use Rattle.shaping.specs.Shaping.{shaped_of}
use Rattle.refusals.specs.Answers.{Done}
use Rattle.refusals.specs.declared.Element.TheVariants.{Value}
use Rattle.sns_shape.specs.Shape.{shape_answer, shape_questions}
use Rattle.sns_shape.specs.Claims.{ShapePinned, ShapeKeeps, ShapeTaken, ShapeTakes}
use Rattle.refusals.proofs.Answers.{done, both_done}
use mathlib.Core.Bool.{Bool, true, false, not, ◌||◌, false≢true}
use lib.Dec.{eqb}
use Rattle.band_index_tables.specs.Bands.{bands_of}
use Rattle.refusals.specs.Elements.{element_questions}
use Rattle.refusals.proofs.Elements.{all_done, done_all}
use Rattle.sns_shape.proofs.ShapeAnswers.{by_lines}
use Rattle.refusals.proofs.Pinned.{pinned, keeps}

pub shape_pinned : ShapePinned
shape_pinned rate ten count gains old r r' new new' = pinned (shape_answer rate ten count gains old) (shaped_of rate ten gains old) old

pub shape_keeps : ShapeKeeps
shape_keeps rate ten count gains old = keeps (shape_answer rate ten count gains old) (shaped_of rate ten gains old) old

pub shape_takes : ShapeTakes
unfolding shape_questions
shape_takes rate ten count gains lines = (there, back)
  where
    there : ShapeTaken rate ten count gains lines → shape_answer rate ten count gains lines ≡ Done
    there t =
        sym (by_lines rate ten count gains lines
        (record { rate_most = t.rate_most; count_is = t.count_is; gain_count = t.gain_count; line_count = t.line_count })
        (all_done Value 0 _ t.gains_finite) (all_done Value 0 _ t.lines_finite))

    right : (a b : Bool) → a || not b ≡ false → b ≡ true
    right true b h = absurd (false≢true (sym h))
    right false b h = not-false b h

    back : shape_answer rate ten count gains lines ≡ Done → ShapeTaken rate ten count gains lines
    back e =
        let a = done _ 0 _ _ e in
        let b = done _ 0 _ _ a.1 in
        let g = done _ 0 _ _ b.1 in
        let l = done _ 0 _ _ g.1 in
        let v = both_done (element_questions Value 0 gains) _ l.1 in
        record {
          rate_most = ltb-false 4 rate a.0;
          count_is = eqb-true _ _ (right (not (count_ok count)) (eqb count (bands_of rate ten)) b.0);
          gain_count = eqb-true _ _ (not-false _ g.0);
          line_count = ltb-false _ _ l.0;
          gains_finite = done_all Value 0 gains v.0;
          lines_finite = done_all Value 0 _ v.1;
        }
