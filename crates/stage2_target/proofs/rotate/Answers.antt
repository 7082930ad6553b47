-- Each place is its own column sum.
use Rattle.std.proofs.Common.{◌≡◌, ◌∙◌, rules}
use lib.Ieee.{nan}
use Rattle.list_laws.proofs.FromFn.{from_fn_is}
use Rattle.rotation.specs.Column.{column_at}
use Rattle.rotation.proofs.Columns.{column_of_rows}
use Rattle.stage2_target.specs.Target.{target_at, target_of}
use Rattle.stage2_target.proofs.rotate.Goals as goal

pub returns : goal.returns
unfolding target_of target_at
returns c =
    from_fn_is _ _ _ 16 _ nan c.from_fn.ensures.items
    (λ i y q h k.
    let e : y ≡ column_at c.args.d.now c.args.residual.now i = search rules in
    let f : q ≡ _ = search rules in
    (f, e ∙ column_of_rows _ _ _ c.requires))
