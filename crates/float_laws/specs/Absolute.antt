-- The absolute value of a float. Definitions only.
use Rattle.std.specs.Prelude.{false, Float}
use Rattle.std.specs.Float.{nan, inf, fin}

unfoldable pub abs_of : Float → Float
abs_of nan = nan
abs_of (inf s) = inf false
abs_of (fin s m e) = fin false m e
