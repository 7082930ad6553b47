-- The gains of the four shapes, all that the tables hold: 2, 4, 4 and 8. Definitions only.
use Rattle.std.specs.Prelude.{ℕ, false, List, [], ◌∷◌, length, get_or, Float}
use Rattle.std.specs.Float.{nan, binary32}
use Rattle.std.specs.Float.Ieee.{round}

-- n / 4096
unfoldable pub over4096 : ℕ → Float
unfolding round
over4096 n = round binary32 false n 4096

-- a row a shape
unfoldable pub gain_rows : List (List Float)
gain_rows =
    (over4096 8915 ∷ over4096 12054 ∷ []) ∷
    (over4096 6245 ∷ over4096 15043 ∷ over4096 17861 ∷ over4096 21014 ∷ []) ∷
    (over4096 7099 ∷ over4096 9132 ∷ over4096 11253 ∷ over4096 14808 ∷ []) ∷
    (over4096 4336 ∷ over4096 5067 ∷ over4096 5895 ∷ over4096 8149 ∷ over4096 10235 ∷ over4096 12825 ∷ over4096 16868 ∷ over4096 19882 ∷ []) ∷
    []

-- how many gains a shape has: a gain's number is below it
abbrev pub gains_of : ℕ → ℕ
gains_of shape = length (get_or gain_rows shape [])

-- the gain of a shape at its number
abbrev pub gain_at : ℕ → ℕ → Float
gain_at shape gain = get_or (get_or gain_rows shape []) gain nan
