-- After b bands the lines are those that the first b bands leave.
use mathlib.Core.Path.{◌≡◌}
use lib.ListN.{length, get_or}
use lib.Ieee.{nan}
use Rattle.list_laws.specs.ListOf.{list_of}
use Rattle.band_index_tables.specs.Bands.{limits_of}
use Rattle.shaping.specs.Shaping.{shaped_line}
use Rattle.shaping.proofs.shape.Given as goal

abbrev pub invariant-loop-b : goal.invariant-loop-b
invariant-loop-b l = l.lines ≡ list_of (length l.initial.lines) (λ i. shaped_line (limits_of l.rate l.ten_ms) l.gains l.b i (get_or l.initial.lines i nan))
