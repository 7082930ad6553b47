-- A buffer of n places of which those from a up to below b hold what they should: one store more at either end, a store elsewhere, two ranges in a row, and
-- a buffer that is right from end to end. Assumes nothing.
use mathlib.Core.Path.{◌≡◌, refl, sym, subst, ◌∙◌}
use mathlib.Core.Logic.{◌⊎◌, inl, inr, ◌≢◌}
use mathlib.Core.Bool.{Bool, true, false}
use mathlib.Core.List.{List}
use Prim.Native.Nat.{ℕ, ◌+◌, ◌≤◌, ◌<◌}
use native.Mathlib.Nat.{eq-or-lt_of_le}
use native.Mathlib.Omega.{arith}
use borrow.Author.Tests.{ltb-true, ltb-false}
use lib.Dec.{ltb}
use lib.ListN.{length, get_or, set, take, length-set}
use lib.Seq.{get_or-set_same, get_or-set_other, get_or-take, length-take-le}
use Rattle.list_laws.specs.ListOf.{list_of}
use Rattle.list_laws.proofs.ListOf.{is_list_of}

-- the places from a up to below b hold g a, g (a + 1), ..
pub record Holds {A : Type 0} (z : A) (g : ℕ → A) (n : ℕ) (ys : List A) (a b : ℕ) : Type 0 where
  pub size : length ys ≡ n
  pub at : (j : ℕ) → a ≤ j → j < b → get_or ys j z ≡ g j

module _ {A : Type 0} (z : A) (g : ℕ → A) (n : ℕ) (ys : List A) where
  pub holds_none : (a : ℕ) → length ys ≡ n → Holds z g n ys a a
  holds_none a l = record { size = l; at = λ j p q. absurd (none j p q) }
    where
      none : (j : ℕ) → a ≤ j → j < a → ⊥
      none j p q = omega arith

  -- the whole buffer, and the front of it
  pub holds_all : Holds z g n ys 0 n → ys ≡ list_of n g
  holds_all h = is_list_of n g z ys h.size (λ i l. h.at i (omega arith) l)

  pub holds_front : (k : ℕ) → k ≤ n → Holds z g n ys 0 k → take k ys ≡ list_of k g
  holds_front k l h =
      is_list_of k g z (take k ys) (length-take-le k ys (subst (λ (m : ℕ). k ≤ m) (sym h.size) l))
      (λ i q. get_or-take k ys i z q ∙ h.at i (omega arith) q)

  pub holds_join : (a b c : ℕ) → Holds z g n ys a b → Holds z g n ys b c → Holds z g n ys a c
  holds_join a b c h k = record { size = h.size; at = λ j p q. by j (ltb j b) p q refl }
    where
      by : (j : ℕ) (t : Bool) → a ≤ j → j < c → ltb j b ≡ t → get_or ys j z ≡ g j
      by j true p q e = h.at j p (ltb-true j b e)
      by j false p q e = k.at j (ltb-false j b e) q

  -- a store at i: of a place outside, and of the place next to either end
  module _ (i : ℕ) (v : A) where
    apart : (a b j : ℕ) → Holds z g n ys a b → a ≤ j → j < b → j ≢ i → get_or (set ys i v) j z ≡ g j
    apart a b j h p q d = get_or-set_other ys i j v z d ∙ h.at j p q

    longer : length ys ≡ n → length (set ys i v) ≡ n
    longer l = length-set ys i v ∙ l

    pub holds_above : (a b : ℕ) → b ≤ i → Holds z g n ys a b → Holds z g n (set ys i v) a b
    holds_above a b l h = record { size = longer h.size; at = λ j p q. apart a b j h p q (less j q) }
      where
        less : (j : ℕ) → j < b → j ≢ i
        less j q e = omega arith

    pub holds_below : (a b : ℕ) → i < a → Holds z g n ys a b → Holds z g n (set ys i v) a b
    holds_below a b l h = record { size = longer h.size; at = λ j p q. apart a b j h p q (more j p) }
      where
        more : (j : ℕ) → a ≤ j → j ≢ i
        more j p e = omega arith

    here : i < n → length ys ≡ n → v ≡ g i → (j : ℕ) → j ≡ i → get_or (set ys i v) j z ≡ g j
    here l m e j q = subst (λ (k : ℕ). get_or (set ys i v) k z ≡ g k) (sym q) (get_or-set_same ys i v z (subst (λ (k : ℕ). i < k) (sym m) l) ∙ e)

    -- the place b, and the range goes up to below c, the number after it
    pub holds_up : (a b c : ℕ) → i ≡ b → c ≡ b + 1 → i < n → v ≡ g i → Holds z g n ys a b → Holds z g n (set ys i v) a c
    holds_up a b c p q l e h = record { size = longer h.size; at = λ j r s. by j r (eq-or-lt_of_le (upto j s)) }
      where
        upto : (j : ℕ) → j < c → j ≤ i
        upto j s = omega arith

        by : (j : ℕ) → a ≤ j → (j ≡ i) ⊎ (j < i) → get_or (set ys i v) j z ≡ g j
        by j r (inl w) = here l h.size e j w
        by j r (inr w) = apart a b j h r (omega arith) (λ (u : j ≡ i). omega arith)

    -- the place below a, from which the range now starts
    pub holds_down : (a b : ℕ) → i + 1 ≡ a → i < n → v ≡ g i → Holds z g n ys a b → Holds z g n (set ys i v) i b
    holds_down a b p l e h = record { size = longer h.size; at = λ j r s. by j s (eq-or-lt_of_le r) }
      where
        by : (j : ℕ) → j < b → (i ≡ j) ⊎ (i < j) → get_or (set ys i v) j z ≡ g j
        by j s (inl w) = here l h.size e j (sym w)
        by j s (inr w) = apart a b j h (omega arith) s (λ (u : j ≡ i). omega arith)
