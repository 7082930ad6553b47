-- Each shape's constants are its set A's, shape by shape, with the size as the sum of offsets that it is.
use mathlib.Core.Path.{◌≡◌}
use native.Mathlib.Omega.{arith}
use Rattle.shapes.proofs.Sizes.{size_regular_a, size_near, size_far}
use Rattle.shapes.proofs.PulseSet.new.Goals as goal

pub returns-in-0 : goal.returns-in-0
returns-in-0 c = let e : c.args.shape ≡ 0 = omega arith in rw (e, size_regular_a)

pub returns-in-1 : goal.returns-in-1
returns-in-1 c = let e : c.args.shape ≡ 1 = omega arith in rw (e, size_regular_a)

pub returns-in-2 : goal.returns-in-2
returns-in-2 c = let e : c.args.shape ≡ 2 = omega arith in rw (e, size_near)

pub returns-in_default : goal.returns-in_default
returns-in_default c = let e : c.args.shape ≡ 3 = omega arith in rw (e, size_far)
