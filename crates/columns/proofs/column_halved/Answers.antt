-- The invariant: the column found is one of `width`, from `low` on, whose offset is at hand. The measure is that width.
use mathlib.Core.Path.{sym}
use Prim.Native.Nat.{◌+◌, ◌/◌}
use native.Mathlib.Omega.{arith}
use Rattle.columns.proofs.Offsets.{first}
use Rattle.columns.proofs.Columns.{column_from, column_under, column_within, left_is}
use Rattle.columns.proofs.column_halved.Goals as goal

pub loop-width-init : goal.loop-width-init
loop-width-init c = (omega arith, omega arith, omega arith, omega (arith, column_within c.args.n 7 c.args.ind), sym (first c.args.n), omega arith)

-- the middle's offset is at most the index: the column lies from it on
pub loop-width-preserved-then-met-ind : goal.loop-width-preserved-then-met-ind
loop-width-preserved-then-met-ind c =
    let a = c.args in
    let from = column_from a.n 7 (c.loop-width.low + c.loop-width.width / 2) a.ind (omega arith) (omega (arith, c.mpvq_offset-met.ensures, c.if-met-ind.true)) in
    (omega arith, omega arith, omega (arith, from), omega arith, c.mpvq_offset-met.ensures, c.if-met-ind.true)

-- it is above the index: the column lies below it
pub loop-width-preserved : goal.loop-width-preserved
loop-width-preserved c =
    let a = c.args in
    let under = column_under a.n 7 (c.loop-width.low + c.loop-width.width / 2) a.ind (omega (arith, c.mpvq_offset-met.ensures, c.if-met-ind.false)) in
    (omega arith, omega arith, omega arith, omega (arith, under), c.loop-width.invariant.4, c.loop-width.invariant.5)

pub overflow_sub-result : goal.overflow_sub-result
overflow_sub-result c = c.loop-width.invariant.5

-- one column is left
pub returns : goal.returns
returns c = left_is _ _ _ _ _ (record { is = omega arith; offset = c.loop-width.invariant.4; low = c.loop-width.invariant.5 })
