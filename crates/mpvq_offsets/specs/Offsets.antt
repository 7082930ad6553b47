-- The pulse offsets A(n,k), row n and column k, and the size of a numbering. Definitions only.
use Rattle.std.specs.Prelude.{ℕ, zero, suc, ◌+◌, ◌<◌, ◌≡◌, List, [], get_or}
use Rattle.list_laws.specs.ListOf.{list_of}

-- A(n,0) = 0; A(0,k) = 1 for k from 1; otherwise A(n,k) = A(n-1,k-1) + A(n,k-1) + A(n-1,k)
unfoldable pub offset_of : ℕ → ℕ → ℕ
offset_of zero zero = 0
offset_of zero (suc k) = 1
offset_of (suc n) zero = 0
offset_of (suc n) (suc k) = offset_of n k + offset_of (suc n) k + offset_of n (suc k)

-- 16 rows of 11 numbers
unfoldable pub offset_table : List (List ℕ)
offset_table = list_of 16 (λ n. list_of 11 (λ k. offset_of n k))

-- the size of a numbering of n places and k pulses: A(0,k) + ... + A(n-1,k)
unfoldable pub size_of : ℕ → ℕ → ℕ
size_of zero k = 0
size_of (suc n) k = size_of n k + offset_of n k

-- row n, column k of a table
abbrev pub entry_of : List (List ℕ) → ℕ → ℕ → ℕ
entry_of t n k = get_or (get_or t n []) k 0

-- the recurrence at every entry of a table of 16 rows of 11, in the table's own entries
pub record Obeys (t : List (List ℕ)) : Type 0 where
  pub column : (n : ℕ) → n < 16 → entry_of t n 0 ≡ 0
  pub row : (k : ℕ) → suc k < 11 → entry_of t 0 (suc k) ≡ 1
  pub rest : (n k : ℕ) → suc n < 16 → suc k < 11 → entry_of t (suc n) (suc k) ≡ entry_of t n k + entry_of t (suc n) k + entry_of t n (suc k)
