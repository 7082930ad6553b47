-- The array is the list of the definition.
use mathlib.Core.Path.{◌≡◌, ◌∙◌}
use borrow.Author.Rules.{rules}
use lib.ListN.{get_or}
use lib.Ieee.{nan, binary32, div}
use Rattle.list_laws.proofs.FromFn.{from_fn_is}
use Rattle.pulse_length.proofs.FloatLaws.{float_at}
use Rattle.candidates.specs.Candidate.{candidate_of}
use Rattle.candidates.proofs.normalize_candidate.Goals as goal

pub returns : goal.returns
unfolding candidate_of
returns c =
    from_fn_is _ _ _ 16 _ nan c.from_fn.ensures.items
    (λ i y q h k.
    let r : y ≡ div binary32 (get_or c.floats-x.result i nan) c.length-length.result = search rules in
    (search rules, r ∙ rw (c.floats-x.ensures, c.length-length.ensures, float_at _ c.args.y.now.sixteen.places i h)))
