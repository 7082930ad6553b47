-- A buffer that a loop changes in place from its first place up: the places passed, and the rest as it was. Assumes nothing.
use mathlib.Core.Path.{◌≡◌, refl}
use mathlib.Core.List.{List}
use Prim.Native.Nat.{ℕ, ◌+◌, ◌≤◌, ◌<◌}
use native.Mathlib.Nat.{le_of_lt}
use native.Mathlib.Omega.{arith}
use lib.ListN.{length, get_or, set, length-set}
use borrow.Author.Rules.{read_above}
use Rattle.list_laws.proofs.Fill.{fill}

-- xs is what the buffer was, ys what it is; the first i places hold g 0, g 1, ..
pub record Passed {A : Type 0} (z : A) (g : ℕ → A) (xs ys : List A) (i : ℕ) : Type 0 where
  pub same : length ys ≡ length xs
  pub done : (j : ℕ) → j < i → get_or ys j z ≡ g j
  pub rest : (j : ℕ) → i ≤ j → get_or ys j z ≡ get_or xs j z

none : (j : ℕ) → j < 0 → ⊥
none j h = omega arith

next : (i j : ℕ) → i + 1 ≤ j → i < j
next i j h = omega arith

pub passed_start : {A : Type 0} (z : A) (g : ℕ → A) (xs : List A) → Passed z g xs xs 0
passed_start z g xs = record { same = refl; done = λ j h. absurd (none j h); rest = λ j h. refl }

pub passed_step : {A : Type 0} (z : A) (g : ℕ → A) (xs ys : List A) (i : ℕ) (v : A) → i < length xs → v ≡ g i → Passed z g xs ys i → Passed z g xs (set ys i v) (i + 1)
passed_step {A} z g xs ys i v h e p = record {
  same = simp length-set p.same;
  done = fill g ys i v z (rw p.same h) p.done e;
  rest = λ j l. read_above A ys i j v z (get_or xs j z) (next i j l) (p.rest j (le_of_lt (next i j l)));
}
