-- The sizes of the four sets, as the sum of offsets that the definition says. Assumes nothing.
use mathlib.Core.Path.{◌≡◌, refl}
use Rattle.mpvq_offsets.specs.Offsets.{offset_of, size_of}
use Rattle.shapes.specs.Claims.{SizesAre}

pub size_regular_a : size_of 10 10 ≡ 2390004
unfolding size_of offset_of
size_regular_a = refl

pub size_regular_b : size_of 6 1 ≡ 6
unfolding size_of offset_of
size_regular_b = refl

pub size_near : size_of 16 8 ≡ 15158272
unfolding size_of offset_of
size_near = refl

pub size_far : size_of 16 6 ≡ 774912
unfolding size_of offset_of
size_far = refl

pub sizes : SizesAre
sizes = (size_regular_a, size_regular_b, size_near, size_far)
