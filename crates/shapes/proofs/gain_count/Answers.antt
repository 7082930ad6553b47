-- The counts are those of the gain table's rows: computed, shape by shape.
use mathlib.Core.Path.{◌≡◌}
use native.Mathlib.Omega.{arith}
use Rattle.sns_tables.specs.Gains.{gain_rows}
use Rattle.shapes.proofs.gain_count.Goals as goal

pub returns-in-0 : goal.returns-in-0
unfolding gain_rows
returns-in-0 c = let e : c.args.shape ≡ 0 = omega arith in rw e

pub returns-in-1 : goal.returns-in-1
unfolding gain_rows
returns-in-1 c = let e : c.args.shape ≡ 1 = omega arith in rw e

pub returns-in-2 : goal.returns-in-2
unfolding gain_rows
returns-in-2 c = let e : c.args.shape ≡ 2 = omega arith in rw e

pub returns-in_default : goal.returns-in_default
unfolding gain_rows
returns-in_default c = let e : c.args.shape ≡ 3 = omega arith in rw e
