-- Each place's product is one that is rounded down, and the list is that of the floors.
use borrow.Author.Rules.{rules}
use lib.Dec.{lit<}
use Rattle.list_laws.proofs.FromFn.{from_fn_asks, from_fn_is}
use Rattle.projection.specs.Projection.{projected_of}
use Rattle.projection.proofs.Projection.{floor_asks, floor_gives}
use Rattle.projection.proofs.Products.projected.Goals as goal

pub from_fn-requires : goal.from_fn-requires
from_fn-requires c =
    let p = c.args.self.now in
    (lit< tt, from_fn_asks _ _ 16 _ (λ i q h. search rules) (λ i l. let k = floor_asks _ _ p.projects p.absolute c.requires i l in search rules))

pub returns : goal.returns
unfolding projected_of
returns c = from_fn_is _ _ _ 16 _ 0 c.from_fn.ensures.items (λ i y q h k. (search rules, floor_gives _ _ c.args.self.now.projects i _ (search rules)))
