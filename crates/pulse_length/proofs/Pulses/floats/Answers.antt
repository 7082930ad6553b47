-- The pulse of each place as a float.
use Rattle.std.proofs.Common.{◌∙◌, ap, lit<, rules}
use lib.Ieee.{nan, binary32, of_int}
use Rattle.list_laws.proofs.FromFn.{from_fn_is, from_fn_asks}
use Rattle.pulse_length.proofs.Squares.{element, element_small}
use Rattle.pulse_length.proofs.FloatLaws.{floats_are}
use Rattle.pulse_length.proofs.Pulses.floats.Goals as goal

pub from_fn-requires : goal.from_fn-requires
from_fn-requires c =
    let s = c.args.self.now.sixteen in
    (lit< tt, from_fn_asks _ _ 16 _ (λ i q r. search rules) (λ i h. let e = element_small _ s i h in search (rules, e)))

pub returns : goal.returns
returns c =
    let s = c.args.self.now.sixteen in
    from_fn_is _ _ _ 16 _ nan c.from_fn.ensures.items (λ i y q h k. let e = ap (of_int binary32) (element _ s i h) in search (rules, e)) ∙ floats_are c.args.self.now.y s.places
