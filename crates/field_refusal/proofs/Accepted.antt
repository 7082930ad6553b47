-- Fields that no question refuses are what the decoder accepts, both ways. Assumes nothing.
use mathlib.Core.Path.{◌≡◌, refl}
use mathlib.Core.Bool.{Bool, true, false, ◌&&◌}
use Prim.Native.Nat.{ℕ, ◌+◌, ◌≤◌, ◌<◌}
use native.Mathlib.Omega.{arith}
use borrow.Author.Tests.{ltb-false, leb-false, eqb-true, eq-eqb, le-ltb, lt-leb}
use lib.Dec.{leb, eqb}
use Rattle.shapes.specs.Sets.{set_b}
use Rattle.frame_fields.specs.declared.Fields.{Fields}
use Rattle.frame_fields.specs.Accepted.{uses_b, Accepted}
use Rattle.refusals.specs.Answers.{Done, answer_of}
use Rattle.field_refusal.specs.Fields.{field_questions}
use Rattle.refusals.proofs.Answers.{done, not_given, none_left}

-- in shape 0 the test of set B is its own
in_b : (shape end value : ℕ) → uses_b shape && leb end value ≡ false → shape ≡ 0 → value < end
in_b shape end value e z = leb-false end value (rw (eq-eqb shape 0 z) at e)

under : (a b : ℕ) → a ≤ b → a < b + 1
under a b h = omega arith

pub accepted : (f : Fields) → answer_of (field_questions f) ≡ Done → Accepted f
unfolding field_questions
accepted f e =
    let low = done _ 0 _ _ e in
    let high = done _ 1 _ _ low.1 in
    let shape = done _ 0 _ _ high.1 in
    let gain = done _ 0 _ _ shape.1 in
    let sign_a = done _ 0 _ _ gain.1 in
    let sign_b = done _ 1 _ _ sign_a.1 in
    let index_a = done _ 0 _ _ sign_b.1 in
    let index_b = done _ 1 _ _ index_a.1 in
    record {
      tables = record {
        low_row = under _ 31 (ltb-false 31 _ low.0);
        high_row = under _ 31 (ltb-false 31 _ high.0);
        shape_below = under _ 3 (ltb-false 3 _ shape.0);
        gain_below = leb-false _ _ gain.0;
      };
      indexed = record {
        sign_a = leb-false 2 _ sign_a.0;
        sign_b = in_b f.shape 2 _ sign_b.0;
        index_a = leb-false _ _ index_a.0;
        index_b = in_b f.shape set_b.size _ index_b.0;
      };
    }

-- the other way
most : (a b : ℕ) → a < b + 1 → a ≤ b
most a b h = omega arith

b_below : (shape end value : ℕ) → (shape ≡ 0 → value < end) → uses_b shape && leb end value ≡ false
b_below shape end value h = by (eqb shape 0) refl
  where
    by : (b : Bool) → eqb shape 0 ≡ b → uses_b shape && leb end value ≡ false
    by true e = rw e (lt-leb end value (h (eqb-true shape 0 e)))
    by false e = rw e

pub taken : (f : Fields) → Accepted f → Done ≡ answer_of (field_questions f)
unfolding field_questions
taken f i =
    not_given _ 0 _ _ (le-ltb 31 _ (most _ 31 i.tables.low_row))
    (not_given _ 1 _ _ (le-ltb 31 _ (most _ 31 i.tables.high_row))
    (not_given _ 0 _ _ (le-ltb 3 _ (most _ 3 i.tables.shape_below))
    (not_given _ 0 _ _ (lt-leb _ _ i.tables.gain_below)
    (not_given _ 0 _ _ (lt-leb 2 _ i.indexed.sign_a)
    (not_given _ 1 _ _ (b_below f.shape 2 _ i.indexed.sign_b)
    (not_given _ 0 _ _ (lt-leb _ _ i.indexed.index_a)
    (not_given _ 1 _ _ (b_below f.shape set_b.size _ i.indexed.index_b) none_left)))))))
