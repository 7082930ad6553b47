-- A buffer that a loop has filled to its end is the list of what was stored. Assumes nothing.
use mathlib.Core.Path.{◌≡◌, sym, ap, ◌∙◌}
use mathlib.Core.List.{List}
use Prim.Native.Nat.{ℕ}
use lib.ListN.{length}
use Rattle.list_laws.specs.ListOf.{list_of}
use Rattle.list_laws.proofs.Fill.{over, over_all}

module _ {A : Type 0} where
  pub full : (g : ℕ → A) (n k : ℕ) (d e : List A) → e ≡ over g k d → k ≡ n → length d ≡ n → e ≡ list_of n g
  full g n k d e h p l = h ∙ ap (λ (i : ℕ). over g i d) (p ∙ sym l) ∙ over_all g d ∙ ap (λ (i : ℕ). list_of i g) l
