-- The answer of packing, by the questions that led to it. Assumes nothing.
use mathlib.Core.Path.{◌≡◌, refl, ap}
use mathlib.Core.Bool.{true, not}
use mathlib.Core.List.{List, [], ◌∷◌}
use Prim.Native.Nat.{ℕ}
use borrow.Author.Tests.{eq-eqb}
use lib.Dec.{eqb}
use lib.IntN.{ℤ}
use lib.ListN.{length}
use Rattle.std.specs.Prelude.{Some, Ok}
use Rattle.shapes.specs.declared.PulseSet.{PulseSet}
use Rattle.shapes.specs.Sets.{paired, found_of}
use Rattle.numbering.specs.Numbering.{pulses_of}
use Rattle.refusals.specs.declared.Refusal.TheVariants.{Length, Pulses}
use Rattle.refusals.specs.Answers.{ask, answer_of, giving}
use Rattle.sns_number.specs.Pack.{pack_questions, numbered_of, pack_answer}
use Rattle.refusals.proofs.Answers.{not_given, none_left}
use Rattle.sns_number.proofs.Pairs.{found_set}

pub taken : (n k : ℕ) (v : List ℤ) → paired n k ≡ true → length v ≡ n → pulses_of v ≡ k → Ok (numbered_of v) ≡ pack_answer n k v
unfolding pack_questions
taken n k v p l q =
    ap (λ a. giving a (numbered_of v))
    (not_given _ 0 _ _ (ap not p)
    (not_given _ 0 _ _ (ap not (eq-eqb (length v) n l)) (not_given _ 0 _ _ (ap not (eq-eqb (pulses_of v) k q)) none_left)))

-- once the set is found, the questions that are left are in its words
pub by_set : (n k : ℕ) (s : PulseSet) (v : List ℤ) → Some s ≡ found_of n k
    → answer_of (ask Length 0 (not (eqb (length v) s.dimension)) ∷ ask Pulses 0 (not (eqb (pulses_of v) s.pulses)) ∷ []) ≡ answer_of (pack_questions n k v)
unfolding pack_questions
by_set n k s v e = let f = found_set n k s e in not_given _ 0 _ _ (ap not f.pair) (rw (f.dimension, f.pulses) refl)
