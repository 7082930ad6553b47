-- Float n of the answer is that of word n.
use Rattle.std.proofs.Common.{◌≡◌, ℕ, ap, ◌∙◌, rules}
use lib.ListN.{get_or}
use lib.Ieee.{nan}
use Rattle.list_laws.proofs.FromFn.{from_fn_is}
use Rattle.list_laws.proofs.ListOf.{get_or_list_of}
use Rattle.program_input.specs.Pattern.{float_at, word_at}
use Rattle.program_input.proofs.record.Goals as goal

pub returns : goal.returns
returns c =
    from_fn_is _ _ _ 16 _ nan c.from_fn.ensures.items
    (λ i y q h k.
    let v : y ≡ float_at (get_or c.words-words.result i 0) = search rules in
    let w : get_or c.words-words.result i 0 ≡ word_at c.args.bytes.now i =
    ap (λ t. get_or t i 0) c.words-words.ensures ∙ get_or_list_of 16 (word_at c.args.bytes.now) 0 i h in
    (search rules, v ∙ ap float_at w))
