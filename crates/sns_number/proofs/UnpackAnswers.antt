-- The answer of unpacking, by the questions that led to it. Assumes nothing.
use mathlib.Core.Path.{◌≡◌, refl, ap}
use mathlib.Core.List.{[], ◌∷◌}
use lib.Dec.{eqb, leb}
use mathlib.Core.Bool.{true, not}
use Prim.Native.Nat.{ℕ, ◌<◌}
use borrow.Author.Tests.{lt-leb, eq-eqb}
use Rattle.std.specs.Prelude.{Some}
use Rattle.mpvq_offsets.specs.Offsets.{size_of}
use Rattle.shapes.specs.declared.PulseSet.{PulseSet}
use Rattle.shapes.specs.Sets.{paired, found_of}
use Rattle.refusals.specs.declared.Refusal.TheVariants.{Length, LeadSign, Index}
use Rattle.refusals.specs.Answers.{Done, ask, answer_of}
use Rattle.sns_number.specs.Unpack.{unpack_questions, unpack_answer}
use Rattle.refusals.proofs.Answers.{not_given, none_left}
use Rattle.sns_number.proofs.Pairs.{found_set}

pub taken : (n k s i len : ℕ) → paired n k ≡ true → len ≡ n → s < 2 → i < size_of n k → Done ≡ unpack_answer n k s i len
unfolding unpack_questions
taken n k s i len p l q r =
    not_given _ 0 _ _ (ap not p)
    (not_given _ 0 _ _ (ap not (eq-eqb len n l)) (not_given _ 0 _ _ (lt-leb 2 s q) (not_given _ 0 _ _ (lt-leb (size_of n k) i r) none_left)))

-- once the set is found, the questions that are left are in its words
pub by_set : (n k : ℕ) (t : PulseSet) (s i len : ℕ) → Some t ≡ found_of n k
    → answer_of (ask Length 0 (not (eqb len t.dimension)) ∷ ask LeadSign 0 (leb 2 s) ∷ ask Index 0 (leb t.size i) ∷ []) ≡ unpack_answer n k s i len
unfolding unpack_questions
by_set n k t s i len e = let f = found_set n k t e in not_given _ 0 _ _ (ap not f.pair) (rw (f.dimension, f.size) refl)
