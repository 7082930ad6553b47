-- Each place is its own absolute value.
use Rattle.std.proofs.Common.{◌≡◌, ◌∙◌, false, get_or, refl, rules}
use Rattle.std.specs.Float.{float_with_sign}
use lib.Ieee.{Float, nan, inf, fin}
use Rattle.float_laws.specs.Absolute.{abs_of}
use Rattle.list_laws.proofs.FromFn.{from_fn_is}
use Rattle.stage2_target.specs.Target.{absolutes_of}
use Rattle.stage2_target.proofs.absolutes.Goals as goal

plus_sign : (x : Float) → float_with_sign false x ≡ abs_of x
unfolding float_with_sign abs_of
plus_sign nan = refl
plus_sign (inf s) = refl
plus_sign (fin s m e) = refl

pub returns : goal.returns
unfolding absolutes_of
returns c =
    from_fn_is _ _ _ 16 _ nan c.from_fn.ensures.items
    (λ i y q h k.
    let e : y ≡ float_with_sign false (get_or c.args.t.now i nan) = search rules in
    let f : q ≡ _ = search rules in
    (f, e ∙ plus_sign _))
