-- The sum of the sizes is the definition's.
use Rattle.std.proofs.Common.{rules, tests, refl, sym, ◌∙◌, nat_abs}
use Rattle.std.proofs.lemmas.Iterator.{YieldsList-from_slice, YieldsList-from_map}
use Rattle.std.proofs.lemmas.Iterator.Consumers.{YieldsList-at, sum_by_from_yields_List}
use Rattle.std.proofs.lemmas.List.Recursion.{is_sum_by}
use Rattle.numbering.specs.Numbering.{pulses_of}
use Rattle.numbering.proofs.pulses.Goals as goal

pub returns : goal.returns
unfolding pulses_of
returns c =
    sum_by_from_yields_List _ _ c.map.result _ c.sum.ensures.ran
    (YieldsList-from_map _ nat_abs (YieldsList-at c.map.ensures.source (YieldsList-from_slice c.args.v.now cc)) c.map.ensures.closure (λ x r q k. search (rules, tests)))
    ∙ sym (is_sum_by pulses_of nat_abs refl (λ _ _. refl) c.args.v.now)
