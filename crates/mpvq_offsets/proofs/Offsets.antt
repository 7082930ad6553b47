-- The 176 offsets obey the recurrence at every entry: one computed test over the whole table, the lemma that carries it to each entry, and what it says of the entry at a place. Assumes nothing.
use mathlib.Core.Path.{◌≡◌, refl, sym, ap₂, ◌∙◌}
use mathlib.Core.Bool.{Bool}
use mathlib.Core.List.{List, [], ◌∷◌}
use Prim.Native.Nat.{ℕ, zero, suc, ◌+◌, ◌*◌, ◌/◌, ◌%◌, ◌<◌}
use native.Mathlib.Omega.{arith}
use lib.Dec.{T, eqb, eqb→eq, lit<}
use lib.ListN.{length, get_or}
use Rattle.list_laws.specs.Every.{grid_from}
use Rattle.list_laws.specs.ListOf.{list_of}
use Rattle.list_laws.proofs.Every.{at_grid}
use Rattle.list_laws.proofs.ListOf.{get_or_list_of}
use Rattle.mpvq_offsets.specs.Offsets.{offset_of, offset_table, entry_of}
use Rattle.mpvq_offsets.specs.Claims.{OffsetsObey}

-- the constants of the code, row by row
unfoldable pub offset_rows : List (List ℕ)
offset_rows =
    (0 ∷ 1 ∷ 1 ∷ 1 ∷ 1 ∷ 1 ∷ 1 ∷ 1 ∷ 1 ∷ 1 ∷ 1 ∷ []) ∷
    (0 ∷ 1 ∷ 3 ∷ 5 ∷ 7 ∷ 9 ∷ 11 ∷ 13 ∷ 15 ∷ 17 ∷ 19 ∷ []) ∷
    (0 ∷ 1 ∷ 5 ∷ 13 ∷ 25 ∷ 41 ∷ 61 ∷ 85 ∷ 113 ∷ 145 ∷ 181 ∷ []) ∷
    (0 ∷ 1 ∷ 7 ∷ 25 ∷ 63 ∷ 129 ∷ 231 ∷ 377 ∷ 575 ∷ 833 ∷ 1159 ∷ []) ∷
    (0 ∷ 1 ∷ 9 ∷ 41 ∷ 129 ∷ 321 ∷ 681 ∷ 1289 ∷ 2241 ∷ 3649 ∷ 5641 ∷ []) ∷
    (0 ∷ 1 ∷ 11 ∷ 61 ∷ 231 ∷ 681 ∷ 1683 ∷ 3653 ∷ 7183 ∷ 13073 ∷ 22363 ∷ []) ∷
    (0 ∷ 1 ∷ 13 ∷ 85 ∷ 377 ∷ 1289 ∷ 3653 ∷ 8989 ∷ 19825 ∷ 40081 ∷ 75517 ∷ []) ∷
    (0 ∷ 1 ∷ 15 ∷ 113 ∷ 575 ∷ 2241 ∷ 7183 ∷ 19825 ∷ 48639 ∷ 108545 ∷ 224143 ∷ []) ∷
    (0 ∷ 1 ∷ 17 ∷ 145 ∷ 833 ∷ 3649 ∷ 13073 ∷ 40081 ∷ 108545 ∷ 265729 ∷ 598417 ∷ []) ∷
    (0 ∷ 1 ∷ 19 ∷ 181 ∷ 1159 ∷ 5641 ∷ 22363 ∷ 75517 ∷ 224143 ∷ 598417 ∷ 1462563 ∷ []) ∷
    (0 ∷ 1 ∷ 21 ∷ 221 ∷ 1561 ∷ 8361 ∷ 36365 ∷ 134245 ∷ 433905 ∷ 1256465 ∷ 3317445 ∷ []) ∷
    (0 ∷ 1 ∷ 23 ∷ 265 ∷ 2047 ∷ 11969 ∷ 56695 ∷ 227305 ∷ 795455 ∷ 2485825 ∷ 7059735 ∷ []) ∷
    (0 ∷ 1 ∷ 25 ∷ 313 ∷ 2625 ∷ 16641 ∷ 85305 ∷ 369305 ∷ 1392065 ∷ 4673345 ∷ 14218905 ∷ []) ∷
    (0 ∷ 1 ∷ 27 ∷ 365 ∷ 3303 ∷ 22569 ∷ 124515 ∷ 579125 ∷ 2340495 ∷ 8405905 ∷ 27298155 ∷ []) ∷
    (0 ∷ 1 ∷ 29 ∷ 421 ∷ 4089 ∷ 29961 ∷ 177045 ∷ 880685 ∷ 3800305 ∷ 14546705 ∷ 50250765 ∷ []) ∷
    (0 ∷ 1 ∷ 31 ∷ 481 ∷ 4991 ∷ 39041 ∷ 246047 ∷ 1303777 ∷ 5984767 ∷ 24331777 ∷ 89129247 ∷ []) ∷
    []

abbrev entry_at : ℕ → ℕ → ℕ
entry_at n k = get_or (get_or offset_rows n []) k 0

-- the entry x at row n and column k is what the recurrence makes of the table's own entries before it
obeys : ℕ → ℕ → ℕ → Bool
obeys n zero x = eqb x 0
obeys zero (suc k) x = eqb x 1
obeys (suc n) (suc k) x = eqb x (entry_at n k + entry_at (suc n) k + entry_at n (suc k))

-- THE TEST
table_obeys : T (grid_from 11 obeys 0 offset_rows)
unfolding offset_rows obeys
table_obeys = tt

rows : length offset_rows ≡ 16
unfolding offset_rows
rows = refl

rule : (n k : ℕ) → n < 16 → k < 11 → T (obeys n k (entry_at n k))
rule n k h l = at_grid 0 11 obeys offset_rows table_obeys n k (rw rows h) l

first : (n : ℕ) → offset_of n 0 ≡ 0
unfolding offset_of
first zero = refl
first (suc n) = refl

-- each entry is A(n,k)
pub entry : (n k : ℕ) → n < 16 → k < 11 → entry_at n k ≡ offset_of n k
unfolding obeys offset_of
entry n zero h l = eqb→eq (entry_at n 0) 0 (rule n 0 h l) ∙ sym (first n)
entry zero (suc k) h l = eqb→eq (entry_at 0 (suc k)) 1 (rule 0 (suc k) h l)
entry (suc n) (suc k) h l =
    eqb→eq (entry_at (suc n) (suc k)) (entry_at n k + entry_at (suc n) k + entry_at n (suc k)) (rule (suc n) (suc k) h l)
    ∙ rw (entry n k (under h) (under l), entry (suc n) k h (under l), entry n (suc k) (under h) l)
  where
    under : {i j : ℕ} → suc i < j → i < j
    under q = omega arith

-- A(n,k) stands at the place 11 n + k of all 176, row by row
pub at_place : (n k place : ℕ) → k < 11 → place ≡ 11 * n + k → offset_of (place / 11) (place % 11) ≡ offset_of n k
at_place n k place l e =
    let a : place / 11 ≡ n = omega arith in
    let b : place % 11 ≡ k = omega arith in
    rw (a, b)

-- x is the offset at a place, if it is the table's entry there: the one law behind every arm of the code's `match`
pub arm : (place key x : ℕ) → place < 176 → place ≡ key → x ≡ entry_at (key / 11) (key % 11) → x ≡ offset_of (place / 11) (place % 11)
arm place key x h e p = p ∙ rw (← e) (entry (place / 11) (place % 11) (omega arith) (omega arith))

-- the table's entries, and so its recurrence
table_entry : (n k : ℕ) → n < 16 → k < 11 → entry_of offset_table n k ≡ offset_of n k
unfolding offset_table
table_entry n k h l = rw (get_or_list_of 16 (λ n. list_of 11 (λ k. offset_of n k)) [] n h) (get_or_list_of 11 (λ k. offset_of n k) 0 k l)

pub offsets_obey : OffsetsObey
unfolding offset_of
offsets_obey = record {
  column = λ n h. table_entry n 0 h (lit< tt) ∙ first n;
  row = λ k l. table_entry 0 (suc k) (lit< tt) l;
  rest = λ n k h l. table_entry (suc n) (suc k) h l ∙ sym (ap₂ (λ (a b : ℕ). a + b) (ap₂ (λ (a b : ℕ). a + b) (table_entry n k (under h) (under l)) (table_entry (suc n) k h (under l))) (table_entry n (suc k) (under h) l));
}
  where
    under : {i j : ℕ} → suc i < j → i < j
    under q = omega arith
