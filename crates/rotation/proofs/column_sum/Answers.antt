-- The fold over the rows makes the running sum, one row a call.
use Rattle.std.proofs.Common.{◌≡◌, ◌∙◌, ap, ℕ, [], List, ◌<◌, length, get_or, refl, rules, arith}
use Rattle.std.specs.List.{zip}
use Rattle.std.proofs.lemmas.Iterator.{YieldsList-from_zip}
use Rattle.std.proofs.lemmas.Iterator.{YieldsList-from_slice}
use Rattle.std.proofs.lemmas.Slice.Zip.{get_or-zip, length-zip}
use lib.Ieee.{Float, nan, binary32, add, mul}
use denote.Ref.{Bor}
use Rattle.float_laws.specs.Running.{sum_to}
use Rattle.float_laws.proofs.Running.{sum_none, sum_more}
use Rattle.list_laws.proofs.Folds.{fold_is}
use Rattle.rotation.specs.Column.{column_at}
use Rattle.rotation.proofs.column_sum.Goals as goal

pub returns : goal.returns
unfolding column_at
returns c =
    let x = c.args.x.now in
    let d = c.args.d.now in
    let sum : ℕ → Float = sum_to (λ row. mul binary32 (get_or x row nan) (get_or (get_or d row []) c.args.n nan)) in
    let long : length (zip x d) ≡ 16 = omega (arith, length-zip x d, c.told-x, c.told-d) in
    fold_is (λ (p : Bor Float × Bor (List Float)). let v : Float × List Float = (p.0.now, p.1.now) in v) _ _ sum (nan, []) _ c.zip.result (zip x d) 16 _ c.fold.result
    (YieldsList-from_zip (YieldsList-from_slice x (search rules)) (YieldsList-from_slice d (search rules))) long (sum_none _)
    (λ k p b q h o call.
    let both : (p.0.now, p.1.now) ≡ (get_or x k nan, get_or d k []) = o ∙ get_or-zip x d k (nan, []) (omega (arith, long, c.told-x)) (omega (arith, long, c.told-d)) in
    let i : p.0.now ≡ get_or x k nan = ap (λ (z : Float × List Float). z.0) both in
    let j : p.1.now ≡ get_or d k [] = ap (λ (z : Float × List Float). z.1) both in
    let e : b ≡ add binary32 (sum k) (mul binary32 p.0.now (get_or p.1.now c.args.n nan)) = search rules in
    let f : q ≡ _ = search rules in
    (e ∙ sum_more _ k _ _ refl (rw (i, j) refl), f))
    c.fold.ensures.ran
