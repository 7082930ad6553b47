-- Each of the ten tables in the code is the written one: computed, an arm of the match at a time.
use mathlib.Core.Path.{◌≡◌, refl}
use mathlib.Core.Bool.{Bool, true, false}
use mathlib.Core.List.{List}
use Prim.Native.Nat.{ℕ}
use native.Mathlib.Omega.{arith}
use borrow.Author.Rules.{rules}
use Rattle.list_laws.specs.ListOf.{list_of}
use Rattle.band_index_tables.specs.Bands.{limit_tables, limits_of, handed_out}
use Rattle.band_index_tables.proofs.band_limits.Goals as goal

-- the arm of rate k and frame length b
arm : (rate k : ℕ) (ten b : Bool) (l : List ℕ) → ten ≡ b → rate ≡ k → l ≡ handed_out (limits_of k b) → l ≡ handed_out (limits_of rate ten)
arm rate k ten b l p q e = rw (p, q) e

pub returns-in-0-true : goal.returns-in-0-true
unfolding limit_tables handed_out list_of
returns-in-0-true c = arm c.args.rate 0 c.args.ten_ms true _ (search rules) (omega arith) refl

pub returns-in-1-true : goal.returns-in-1-true
unfolding limit_tables handed_out list_of
returns-in-1-true c = arm c.args.rate 1 c.args.ten_ms true _ (search rules) (omega arith) refl

pub returns-in-2-true : goal.returns-in-2-true
unfolding limit_tables handed_out list_of
returns-in-2-true c = arm c.args.rate 2 c.args.ten_ms true _ (search rules) (omega arith) refl

pub returns-in-3-true : goal.returns-in-3-true
unfolding limit_tables handed_out list_of
returns-in-3-true c = arm c.args.rate 3 c.args.ten_ms true _ (search rules) (omega arith) refl

pub returns-in_default-true : goal.returns-in_default-true
unfolding limit_tables handed_out list_of
returns-in_default-true c = arm c.args.rate 4 c.args.ten_ms true _ (search rules) (omega arith) refl

pub returns-in-0-false : goal.returns-in-0-false
unfolding limit_tables handed_out list_of
returns-in-0-false c = arm c.args.rate 0 c.args.ten_ms false _ (search rules) (omega arith) refl

pub returns-in-1-false : goal.returns-in-1-false
unfolding limit_tables handed_out list_of
returns-in-1-false c = arm c.args.rate 1 c.args.ten_ms false _ (search rules) (omega arith) refl

pub returns-in-2-false : goal.returns-in-2-false
unfolding limit_tables handed_out list_of
returns-in-2-false c = arm c.args.rate 2 c.args.ten_ms false _ (search rules) (omega arith) refl

pub returns-in-3-false : goal.returns-in-3-false
unfolding limit_tables handed_out list_of
returns-in-3-false c = arm c.args.rate 3 c.args.ten_ms false _ (search rules) (omega arith) refl

pub returns-in_default-false : goal.returns-in_default-false
unfolding limit_tables handed_out list_of
returns-in_default-false c = arm c.args.rate 4 c.args.ten_ms false _ (search rules) (omega arith) refl
