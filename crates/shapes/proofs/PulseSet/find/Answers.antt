-- The pair is one of the four, or none of them: each answer from the tests that led to it.
use Rattle.std.proofs.Common.{◌≡◌, ℕ, None, refl, rules}
use borrow.Author.Tests.{ne_eqb}
use Rattle.shapes.specs.Sets.{found_of}
use Rattle.shapes.proofs.Pairs.{found, missing}
use Rattle.shapes.proofs.PulseSet.find.Goals as goal

-- none of the pairs with dimension a has this pulse count
none_10 : (n k : ℕ) → n ≡ 10 → (k ≡ 10 → ⊥) → None ≡ found_of n k
none_10 n k p q = missing n k (rw (p, ne_eqb k 10 q))

none_6 : (n k : ℕ) → n ≡ 6 → (k ≡ 1 → ⊥) → None ≡ found_of n k
none_6 n k p q = missing n k (rw (p, ne_eqb k 1 q))

none_16 : (n k : ℕ) → n ≡ 16 → (k ≡ 8 → ⊥) → (k ≡ 6 → ⊥) → None ≡ found_of n k
none_16 n k p q r = missing n k (rw (p, ne_eqb k 8 q, ne_eqb k 6 r))

none : (n k : ℕ) → (n ≡ 10 → ⊥) → (n ≡ 6 → ⊥) → (n ≡ 16 → ⊥) → None ≡ found_of n k
none n k p q r = missing n k (simp (ne_eqb n 10 p, ne_eqb n 6 q, ne_eqb n 16 r))

pub returns-in-10-eq10 : goal.returns-in-10-eq10
returns-in-10-eq10 c = found _ _ 10 10 _ (search rules) (search rules) refl c.new.ensures

pub returns-in-6-eq1 : goal.returns-in-6-eq1
returns-in-6-eq1 c = found _ _ 6 1 _ (search rules) (search rules) refl c.set_b.ensures

pub returns-in-16-eq8 : goal.returns-in-16-eq8
returns-in-16-eq8 c = found _ _ 16 8 _ (search rules) (search rules) refl c.new-in-16-eq8.ensures

pub returns-in-16-eq6 : goal.returns-in-16-eq6
returns-in-16-eq6 c = found _ _ 16 6 _ (search rules) (search rules) refl c.new-in-16-eq6.ensures

pub returns-in_default : goal.returns-in_default
returns-in_default c = none_10 _ _ (search rules) (search rules)

pub returns-in_default-2 : goal.returns-in_default-2
returns-in_default-2 c = none_6 _ _ (search rules) (search rules)

pub returns-in_default-3 : goal.returns-in_default-3
returns-in_default-3 c = none_16 _ _ (search rules) (search rules) (search rules)

pub returns-in_default-4 : goal.returns-in_default-4
returns-in_default-4 c = none _ _ (search rules) (search rules) (search rules)
