-- The four shapes' pulses, without signs. Definitions only.
use Rattle.std.specs.Prelude.{cond, List, ℕ, zero, suc, ◌+◌, ltb, get_or, set, Float}
use Rattle.std.specs.Float.{nan, binary32}
use Rattle.std.specs.Float.Ieee.{sub, lt}
use Rattle.float_laws.specs.Scan.{scan_to}
use Rattle.list_laws.specs.ListOf.{list_of}
use Rattle.pulse_search.specs.declared.SearchRecord.{SearchRecord}
use Rattle.pulse_search.specs.Pulse.{Search, start, up_to}
use Rattle.projection.specs.Projection.{with_terms, projection}

-- Shape 3: the projection. Then single pulses up to 6 over 16 places.
unfoldable pub shape3 : List Float → Search
shape3 a = up_to a 15 6 (projection a)

-- Shape 2: go on from shape 3 up to 8.
unfoldable pub shape2 : List Float → Search
shape2 a = up_to a 15 8 (shape3 a)

-- Shape 1: keep places 0 to 9 of shape 2,
unfoldable pub low_of : List ℕ → List ℕ
low_of y = list_of 16 (λ n. cond (ltb n 10) (get_or y n 0) 0)

-- subtract the same two terms of a dropped place from correlation and energy
abbrev pub dropped : SearchRecord → ℕ → Float → SearchRecord
dropped r w x = with_terms (sub binary32) r w x

-- one place after another upward: the first n places from 10 on
unfoldable pub dropped_to : List Float → List ℕ → SearchRecord → ℕ → SearchRecord
dropped_to a y r zero = r
dropped_to a y r (suc n) = dropped (dropped_to a y r n) (get_or y (10 + n) 0) (get_or a (10 + n) nan)

unfoldable pub lowered : List Float → Search → Search
lowered a s = start (low_of s.pulses) (dropped_to a s.pulses s.pair 6)

-- go on up to 10 over places 0 to 9
unfoldable pub shape1 : List Float → Search
shape1 a = up_to a 9 10 (lowered a (shape2 a))

-- the first strictly largest a of places 10 to 10 + n: place 10 where all are zero
unfoldable pub largest_to : List Float → ℕ → ℕ
largest_to a n = 10 + scan_to (λ n best. lt (get_or a (10 + best) nan) (get_or a (10 + n) nan)) n

-- Shape 0: shape 1's ten places, and one pulse at the first strictly largest a of places 10 to 15.
unfoldable pub shape0 : List Float → List ℕ
shape0 a = set (shape1 a).pulses (largest_to a 5) 1

-- a shape's pulses
unfoldable pub shape_pulses : List Float → ℕ → List ℕ
shape_pulses a zero = shape0 a
shape_pulses a (suc zero) = (shape1 a).pulses
shape_pulses a (suc (suc zero)) = (shape2 a).pulses
shape_pulses a (suc (suc (suc s))) = (shape3 a).pulses
