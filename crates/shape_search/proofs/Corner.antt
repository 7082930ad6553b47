-- Shape 1's start for one row of targets, computed by the definitions: what is left of a rounded sum is below zero. Assumes nothing.
use mathlib.Core.Path.{refl}
use lib.Ieee.{of_int, of_bits, add, sub, mul, div, lt, le}
use Rattle.float_laws.specs.Scan.{scan_to}
use Rattle.float_laws.specs.Floor.{floor_of}
use Rattle.float_laws.specs.Running.{sum_to}
use Rattle.list_laws.specs.ListOf.{list_of}
use Rattle.list_laws.specs.Some.{some_below}
use Rattle.pulse_search.specs.Pulse.{pair_at, replaces, best_to, one_pulse, more, sum_over}
use Rattle.projection.specs.Projection.{projection_factor, product_at, projected_of, terms_of, with_terms, joined_to, some_not_finite, some_seven, total_over_six, projection}
use Rattle.shape_search.specs.Shape.{low_of, dropped_to, lowered, shape3, shape2}
use Rattle.shape_search.specs.Claims.{RoundingLeft}

pub rounding_left : RoundingLeft
unfolding of_int of_bits add sub mul div lt le floor_of sum_to list_of some_below pair_at replaces best_to one_pulse more sum_over projection_factor product_at projected_of terms_of with_terms joined_to some_not_finite some_seven total_over_six projection low_of dropped_to lowered shape3 shape2 scan_to
rounding_left = refl
