-- Word n of the answer is that of chunk n, and chunk n is the four bytes from 4 n on.
use Rattle.std.proofs.Common.{◌≡◌, ℕ, zero, suc, ◌*◌, ◌<◌, List, [], take, drop, refl, ap, ◌∙◌, arith, rules}
use native.Mathlib.Nat.{not-suc-le-zero}
use lib.ListN.{get_or}
use Rattle.std.specs.Int.{w32, from_le_bytes}
use Rattle.std.specs.Simd.{first_chunks}
use Rattle.std.proofs.lemmas.List.{drop-drop}
use Rattle.list_laws.proofs.FromFn.{from_fn_is}
use Rattle.program_input.proofs.words.Goals as goal

chunk_is : (k i : ℕ) (xs : List ℕ) → i < k → get_or (first_chunks 4 k xs) i [] ≡ take 4 (drop (4 * i) xs)
chunk_is zero i xs h = absurd (not-suc-le-zero h)
chunk_is (suc k) zero xs h = refl
chunk_is (suc k) (suc i) xs h =
    chunk_is k i (drop 4 xs) (omega arith) ∙ ap (take 4) (drop-drop (4 * i) 4 xs ∙ ap (λ (n : ℕ). drop n xs) (omega arith))

pub returns : goal.returns
returns c d =
    from_fn_is _ _ _ _ _ 0 d.before.from_fn.ensures.items
    (λ i y q h k.
    let v : y ≡ from_le_bytes w32 (get_or d.as_chunks.result.0.now i []) = search rules in
    let w : get_or d.as_chunks.result.0.now i [] ≡ take 4 (drop (4 * i) d.args.bytes.now) =
    ap (λ (t : List (List ℕ)). get_or t i []) d.as_chunks.ensures.front ∙ chunk_is _ i _ (omega arith) in
    (search rules, v ∙ ap (from_le_bytes w32) w))
