-- A list of which the part from a up to below e is replaced, element by element. Assumes nothing.
use mathlib.Core.Path.{◌≡◌, ap, ◌∙◌}
use mathlib.Core.List.{List, ◌++◌}
use Prim.Native.Nat.{ℕ, ◌+◌, ◌-◌, ◌≤◌, ◌<◌}
use native.Mathlib.Omega.{arith}
use lib.ListN.{length, get_or, take, drop, length-append, length-drop, get_or-append}
use lib.Seq.{length-take-le, get_or-take, get_or-drop, get_or-append-add}

module _ {A : Type 0} (z : A) where
  -- past the first of two lists
  get_or_second : (xs ys : List A) (n i : ℕ) → length xs ≡ n → n ≤ i → get_or (xs ++ ys) i z ≡ get_or ys (i - n) z
  get_or_second xs ys n i l h = ap (λ (k : ℕ). get_or (xs ++ ys) k z) (place (length xs) n i l h) ∙ get_or-append-add xs ys (i - n) z
    where
      place : (m n i : ℕ) → m ≡ n → n ≤ i → i ≡ m + (i - n)
      place m n i e h = omega arith

  module _ (a e : ℕ) (xs ys : List A) (h : a ≤ e) (k : e ≤ length xs) (l : length ys ≡ e - a) where
    -- xs with ys in the place of that part
    abbrev pub replaced : List A
    replaced = take a xs ++ (ys ++ drop (e - a) (drop a xs))

    front : length (take a xs) ≡ a
    front = length-take-le a xs (omega arith)

    pub length_replaced : length replaced ≡ length xs
    length_replaced =
        length-append (take a xs) (ys ++ drop (e - a) (drop a xs)) ∙ ap (λ (n : ℕ). length (take a xs) + n) (length-append ys (drop (e - a) (drop a xs)))
        ∙ rw (front, l, length-drop, length-drop) (total a e (length xs) h k)
      where
        total : (a e n : ℕ) → a ≤ e → e ≤ n → a + (e - a + (n - a - (e - a))) ≡ n
        total a e n h k = omega arith

    pub before : (i : ℕ) → i < a → get_or replaced i z ≡ get_or xs i z
    before i p = get_or-append (take a xs) (ys ++ drop (e - a) (drop a xs)) z i (rw front p) ∙ get_or-take a xs i z p

    pub within : (i : ℕ) → a ≤ i → i < e → get_or replaced i z ≡ get_or ys (i - a) z
    within i p q =
        get_or_second (take a xs) (ys ++ drop (e - a) (drop a xs)) a i front p ∙ get_or-append ys (drop (e - a) (drop a xs)) z (i - a) (rw l (less a e i p q))
      where
        less : (a e i : ℕ) → a ≤ i → i < e → i - a < e - a
        less a e i p q = omega arith

    pub after : (i : ℕ) → e ≤ i → get_or replaced i z ≡ get_or xs i z
    after i p =
        get_or_second (take a xs) (ys ++ drop (e - a) (drop a xs)) a i front (omega arith) ∙ get_or_second ys (drop (e - a) (drop a xs)) (e - a) (i - a) l (omega arith)
        ∙ get_or-drop (e - a) (drop a xs) (i - a - (e - a)) z ∙ get_or-drop a xs (e - a + (i - a - (e - a))) z ∙ ap (λ (j : ℕ). get_or xs j z) (place a e i h p)
      where
        place : (a e i : ℕ) → a ≤ e → e ≤ i → a + (e - a + (i - a - (e - a))) ≡ i
        place a e i h p = omega arith
