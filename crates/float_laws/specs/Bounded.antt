-- Lists of floats of which each is finite, or of bounded size. Definitions only.
use Rattle.std.specs.Prelude.{List, ℕ, ◌<◌, T, get_or, Float}
use Rattle.std.specs.Float.{nan}
use Rattle.float_laws.specs.Kind.{finite}
use Rattle.float_laws.specs.Size.{Within}

-- each of the first k is finite
abbrev pub AllFinite : ℕ → List Float → Type 0
AllFinite k xs = (n : ℕ) → n < k → T (finite (get_or xs n nan))

-- and at most `limit` in size
abbrev pub Bounded : ℕ → ℕ → List Float → Type 0
Bounded k limit xs = (n : ℕ) → n < k → Within (get_or xs n nan) limit 1
