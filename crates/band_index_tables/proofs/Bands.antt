-- The ten band limit tables start at 0, rise, and have 60 or 64 bands: one computed test over all ten, and what it says of each. Assumes nothing.
use mathlib.Core.Path.{◌≡◌, refl, subst}
use mathlib.Core.Bool.{Bool, true, false}
use mathlib.Core.List.{List, []}
use Prim.Native.Nat.{ℕ, zero, suc, ◌+◌, ◌-◌, ◌<◌}
use native.Mathlib.Omega.{arith}
use lib.Dec.{T, eqb, ltb, eqb→eq, ltb→lt}
use borrow.Author.Tests.{lt-ltb, le-ltb}
use lib.ListN.{length, get_or}
use Rattle.list_laws.specs.Every.{both, every_below, every_from}
use Rattle.list_laws.proofs.Every.{both_left, both_right, at_below, at_place}
use Rattle.band_index_tables.specs.Bands.{limit_tables, table_number, limits_of, bands_of}
use Rattle.band_index_tables.specs.Claims.{LimitsSound}

-- the bands of table k
bands_at : ℕ → ℕ
bands_at k = bands_of (k - 5) (ltb k 5)

starts : List ℕ → Bool
starts l = eqb (get_or l 0 0) 0

rises : ℕ → List ℕ → Bool
rises n l = every_below n (λ b. ltb (get_or l b 0) (get_or l (b + 1) 0))

sound : ℕ → List ℕ → Bool
sound k l = both (eqb (length l) (bands_at k + 1)) (both (starts l) (rises (bands_at k) l))

-- THE TEST
all_sound : T (every_from sound 0 limit_tables)
unfolding limit_tables sound bands_at bands_of starts rises
all_sound = tt

tables : length limit_tables ≡ 10
unfolding limit_tables
tables = refl

number_bands : (rate : ℕ) (ten : Bool) → rate < 5 → (table_number rate ten < 10) × (bands_at (table_number rate ten) ≡ bands_of rate ten)
unfolding bands_at bands_of
number_bands rate true h = (omega arith, rw (lt-ltb rate 5 h) (sixty_four (rate - 5) rate))
  where
    sixty_four : (r s : ℕ) → bands_of r true ≡ bands_of s true
    sixty_four zero zero = refl
    sixty_four zero (suc s) = refl
    sixty_four (suc r) zero = refl
    sixty_four (suc r) (suc s) = refl
number_bands rate false h = (omega arith, rw (back, le-ltb (5 + rate) 5 (omega arith)))
  where
    back : 5 + rate - 5 ≡ rate
    back = omega arith

pub limits : LimitsSound
unfolding sound starts rises
limits rate ten h =
    let k = table_number rate ten in
    let l = limits_of rate ten in
    let n = number_bands rate ten h in
    let t : T (both (eqb (length l) (bands_of rate ten + 1)) (both (starts l) (rises (bands_of rate ten) l))) =
    subst (λ (m : ℕ). T (both (eqb (length l) (m + 1)) (both (starts l) (rises m l)))) n.1 (at_place [] sound limit_tables all_sound k (rw tables n.0)) in
    let u = both_right (eqb (length l) (bands_of rate ten + 1)) (both (starts l) (rises (bands_of rate ten) l)) t in
    record {
      count = eqb→eq (length l) (bands_of rate ten + 1) (both_left (eqb (length l) (bands_of rate ten + 1)) (both (starts l) (rises (bands_of rate ten) l)) t);
      start = eqb→eq (get_or l 0 0) 0 (both_left (starts l) (rises (bands_of rate ten) l) u);
      rise = λ b q. ltb→lt (get_or l b 0) (get_or l (b + 1) 0) (at_below (bands_of rate ten) (λ b. ltb (get_or l b 0) (get_or l (b + 1) 0)) (both_right (starts l) (rises (bands_of rate ten) l) u) b q);
    }
