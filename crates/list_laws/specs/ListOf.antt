-- A list that is given by its elements. Definitions only.
use Rattle.std.specs.Prelude.{List, [], ◌∷◌, ℕ, zero, suc}

-- n elements, of which element i is g i
unfoldable pub list_of : {A : Type 0} → ℕ → (ℕ → A) → List A
list_of zero g = []
list_of (suc n) g = g 0 ∷ list_of n (λ k. g (suc k))
