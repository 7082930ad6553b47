-- What is shown of the running search record. Definitions only; the proofs are in proofs/Held.
use Rattle.std.specs.Prelude.{◌≡◌, List, ℕ, zero, suc, ◌+◌, ◌≤◌, ◌<◌, T, pos, length, get_or, set, Float}
use Rattle.std.specs.Float.{nan, binary32}
use Rattle.std.specs.Float.Ieee.{of_int, add, le}
use Rattle.float_laws.specs.Size.{exact}
use Rattle.float_laws.specs.Literal.{one}
use Rattle.pulse_search.specs.Pulse.{pair_at, best_to, Search, start, more, total_to, square_to}

-- The pair belongs to the pulses placed: its energy is the sum of the squares of the pulses, a whole number that f32 holds exactly, and so
-- never below 1 once a pulse stands.
pub record Belongs (s : Search) : Type 0 where
  pub squares : s.pair.energy ≡ of_int binary32 (pos (square_to s.pulses 16))
  pub exactly : T (exact binary32 (square_to s.pulses 16) 1)
  pub least : 1 ≤ total_to s.pulses 16 → T (le one s.pair.energy)

-- and so does the pair of each place that one pulse more is tried at
abbrev pub TriedBelong : List Float → Search → Type 0
TriedBelong a s = (n : ℕ) → n < 16 → Belongs (start (set s.pulses n (get_or s.pulses n 0 + 1)) (pair_at a s.pulses s.pair n))

-- From the start on and after every pulse of k single pulses over places 0 to last. So every energy that is compared is at least 1, as it
-- must be where quotients are compared by cross-multiplying.
pub record Held (a : List Float) (last k : ℕ) (s : Search) : Type 0 where
  pub placed : (i : ℕ) → i ≤ k → Belongs (more a last i s)
  pub tried : (i : ℕ) → i < k → TriedBelong a (more a last i s)
  pub compared : (i : ℕ) → i < k → (n : ℕ) → n < 16 → T (le one (pair_at a (more a last i s).pulses (more a last i s).pair n).energy)

-- A pair that belongs to the pulses belongs to them from then on: for every a, while the pulses fit a byte.
abbrev pub RecordHeld : Type 0
RecordHeld = (a : List Float) (last k : ℕ) (s : Search) → last < 16 → length s.pulses ≡ 16 → total_to s.pulses 16 + k ≤ 255 → Belongs s → Held a last k s

-- the place that the search puts pulse i + 1 at
abbrev pub pulse_place : List Float → ℕ → Search → ℕ → ℕ
pulse_place a last s i = best_to a (more a last i s).pulses (more a last i s).pair last

-- y with one pulse more at each of the first k places p, one after another
unfoldable pub grown : List ℕ → (ℕ → ℕ) → ℕ → List ℕ
grown y p zero = y
grown y p (suc k) = set (grown y p k) (p k) (get_or (grown y p k) (p k) 0 + 1)

-- the ordered sum: c, and the a of each of these places added to it, one after another
unfoldable pub ordered_sum : List Float → Float → (ℕ → ℕ) → ℕ → Float
ordered_sum a c p zero = c
ordered_sum a c p (suc k) = add binary32 (ordered_sum a c p k) (get_or a (p k) nan)

-- k single pulses go to so many places, and the correlation grows by the a of these very places, in this order
pub record Ordered (a : List Float) (last k : ℕ) (s : Search) : Type 0 where
  pub pulses : (more a last k s).pulses ≡ grown s.pulses (pulse_place a last s) k
  pub correlation : (more a last k s).pair.correlation ≡ ordered_sum a s.pair.correlation (pulse_place a last s) k

-- whatever the search starts from
abbrev pub RecordOrdered : Type 0
RecordOrdered = (a : List Float) (last k : ℕ) (s : Search) → Ordered a last k s
