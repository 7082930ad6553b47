-- The f32 values that code writes as 0.0, 1.0, 2.0, 5.0 and 7.0, and a value times itself. Definitions only.
use Rattle.std.specs.Prelude.{Float}
use Rattle.std.specs.Float.{binary32}
use Rattle.std.specs.Float.Ieee.{of_bits, mul}

abbrev pub nought : Float
nought = of_bits binary32 0

abbrev pub one : Float
one = of_bits binary32 1065353216

abbrev pub two : Float
two = of_bits binary32 1073741824

abbrev pub five : Float
five = of_bits binary32 1084227584

abbrev pub seven : Float
seven = of_bits binary32 1088421888

abbrev pub squared : Float → Float
squared x = mul binary32 x x
