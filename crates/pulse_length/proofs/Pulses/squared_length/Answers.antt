-- The sum, and the squares that are left, are the squared length.
use Rattle.std.proofs.Common.{arith}
use Rattle.pulse_length.proofs.Squares.{element_small, squares_turn, squares_end}
use Rattle.pulse_length.proofs.Pulses.squared_length.Goals as goal

pub square-sum-requires : goal.square-sum-requires
square-sum-requires c = element_small _ c.args.self.now.sixteen c.loop-y.y-index c.loop-y-test.true

pub overflow_add-sum : goal.overflow_add-sum
overflow_add-sum c = record { fits = omega (arith, squares_turn _ c.args.self.now.sixteen c.loop-y.y-index c.loop-y-test.true c.loop-y.sum _ c.square-sum.ensures c.loop-y.invariant, c.args.self.now.sixteen.below) }

pub loop-y-preserved : goal.loop-y-preserved
loop-y-preserved c = squares_turn _ c.args.self.now.sixteen c.loop-y.y-index c.loop-y-test.true c.loop-y.sum _ c.square-sum.ensures c.loop-y.invariant

pub returns : goal.returns
returns c = omega (arith, c.loop-y.invariant, squares_end c.args.self.now.y c.loop-y.y-index (rw c.args.self.now.sixteen.places c.loop-y-test.false))
