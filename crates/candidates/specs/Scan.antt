-- The choices of a shape and a gain, in the order in which they are scanned. Definitions only.
use Rattle.std.specs.Prelude.{List, [], ◌∷◌, ◌++◌, ℕ, suc, ◌-◌, length, get_or, Float}
use Rattle.float_laws.specs.Scan.{least_to}
use Rattle.list_laws.specs.ListOf.{list_of}
use Rattle.sns_tables.specs.Gains.{gain_at}
use Rattle.candidates.specs.declared.Choice.{Choice}
use Rattle.candidates.specs.Candidate.{distortion_of}

-- 2, 4, 4 and 8 gains (order 3)
unfoldable pub gains_scanned : List ℕ
gains_scanned = 2 ∷ 4 ∷ 4 ∷ 8 ∷ []

-- Scanned in order: shapes upward from `shape`, and of each its gains 0 upward, so many as the list says.
unfoldable pub scanned_from : ℕ → List ℕ → List Choice
scanned_from shape [] = []
scanned_from shape (count ∷ counts) = list_of count (λ gain. record { shape = shape; gain = gain }) ++ scanned_from (suc shape) counts

-- shapes 0 to 3
unfoldable pub scanned : List Choice
scanned = scanned_from 0 gains_scanned

-- how many there are in all
abbrev pub choices : ℕ
choices = length scanned

abbrev pub choice_at : ℕ → Choice
choice_at i = get_or scanned i (record { shape = 0; gain = 0 })

-- the gain of a choice
unfoldable pub gain_of : ℕ → Float
gain_of i = gain_at (choice_at i).shape (choice_at i).gain

-- the distortion of a choice, by the shapes' candidates q
unfoldable pub distortion_at : List Float → List (List Float) → ℕ → Float
distortion_at t q i = distortion_of t (get_or q (choice_at i).shape []) (gain_of i)

-- the first strictly smallest wins
unfoldable pub winner_of : List Float → List (List Float) → ℕ
winner_of t q = least_to (distortion_at t q) (choices - 1)
