-- The fold over the eight places makes the running sum, one place a call.
use Rattle.std.proofs.Common.{◌≡◌, ◌∙◌, ◌-◌, ◌+◌, ◌<◌, ℕ, List, [], get_or, take, drop, length, refl, rules, arith}
use Rattle.std.proofs.lemmas.List.{get_or-drop, get_or-take}
use Rattle.std.specs.Iterator.Adapters.{zip_first}
use Rattle.std.specs.Slice.Iter.{iter_rest}
use lib.Ieee.{Float, nan, binary32, add, sub}
use Rattle.float_laws.specs.Literal.{squared}
use Rattle.float_laws.specs.Running.{sum_to}
use Rattle.float_laws.proofs.Running.{sum_none, sum_more}
use Rattle.list_laws.proofs.Folds.{fold_zip_is}
use Rattle.sns_tables.specs.ByPlace.{turned_at}
use Rattle.stage1.specs.Stage1.{distance, half}
use Rattle.stage1.proofs.dmse.Goals as goal

half_at : (x : List Float) (from k : ℕ) → k < 8 → get_or (take 8 (drop from x)) k nan ≡ half x from k
half_at x from k h = get_or-take 8 (drop from x) k nan h ∙ get_or-drop from x k nan

pub returns : goal.returns
unfolding distance
returns c =
    let scf = c.args.scf.now in
    let from = c.args.from in
    let xs = take 8 (drop from scf) in
    let cb = c.args.cb.now in
    let sum : ℕ → Float = sum_to (λ place. squared (sub binary32 (half scf from place) (turned_at cb c.args.row place))) in
    let long : length xs ≡ 8 = grind arith in
    let eight : from + 8 - from ≡ 8 = omega arith in
    let rest : iter_rest (zip_first c.zip.result) ≡ take (from + 8 - from) (drop from scf) = search rules in
    fold_zip_is _ _ sum nan [] c.zip.result xs cb 8 _ c.fold.result (rw eight at rest) (search rules) long c.told-cb (sum_none _)
    (λ k p b q h i j call.
    let e : b ≡ add binary32 (sum k) (squared (sub binary32 p.0.now (get_or p.1.now c.args.row nan))) = search rules in
    let f : q ≡ _ = search rules in
    (e ∙ sum_more _ k _ _ refl (rw (i, j, half_at scf from k h) refl), f))
    c.fold.ensures.ran
