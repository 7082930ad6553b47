-- Tests that the checker computes over a whole table. Definitions only.
use Rattle.std.specs.Prelude.{Bool, true, false, List, [], ◌∷◌, ℕ, zero, suc, eqb, length}

-- the second test is not computed where the first fails
abbrev pub both : Bool → Bool → Bool
both true b = b
both false b = false

-- the test f passes at each number below n
abbrev pub every_below : ℕ → (ℕ → Bool) → Bool
every_below zero f = true
every_below (suc n) f = both (f n) (every_below n f)

module _ {A : Type 0} where
  -- the test f passes at each entry
  abbrev pub every : (A → Bool) → List A → Bool
  every f [] = true
  every f (x ∷ xs) = both (f x) (every f xs)

  -- the test f passes at each entry with its place, counted from i
  abbrev pub every_from : (ℕ → A → Bool) → ℕ → List A → Bool
  every_from f i [] = true
  every_from f i (x ∷ xs) = both (f i x) (every_from f (suc i) xs)

  -- each row has w entries, and the test f passes at each entry with its row and column, rows counted from i
  abbrev pub grid_from : ℕ → (ℕ → ℕ → A → Bool) → ℕ → List (List A) → Bool
  grid_from w f i [] = true
  grid_from w f i (r ∷ rs) = both (both (eqb (length r) w) (every_from (f i) 0 r)) (grid_from w f (suc i) rs)
