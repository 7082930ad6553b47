-- The loop is the definition, a place at a time.
use mathlib.Core.Path.{◌≡◌, refl}
use mathlib.Core.List.{List}
use Prim.Native.Nat.{ℕ, ◌+◌, min}
use native.Mathlib.Numerals.{add-one}
use native.Mathlib.Omega.{arith}
use borrow.Author.Rules.{rules}
use lib.ListN.{length, get_or}
use lib.Ieee.{Float, nan, binary32, add}
use Rattle.std.proofs.lemmas.List.{length_push}
use Rattle.std.proofs.lemmas.Slice.Zip.{zip_turn, zip_end}
use Rattle.pulse_search.specs.declared.SearchRecord.{SearchRecord}
use Rattle.projection.specs.Projection.{joined, joined_to}
use Rattle.projection.proofs.pair_of.Goals as goal

joined_more : (a : List Float) (y : List ℕ) (n m : ℕ) (r : SearchRecord) (w : ℕ) (x : Float) → r ≡ joined_to a y n → w ≡ get_or y n 0 → x ≡ get_or a n nan → m ≡ n + 1 → joined r w x ≡ joined_to a y m
unfolding joined_to
joined_more a y n m r w x e p q l = rw (e, p, q, l, add-one)

pub loop-x-init : goal.loop-x-init
unfolding joined_to
loop-x-init c = refl

pub loop-x-preserved : goal.loop-x-preserved
loop-x-preserved c =
    let l = c.loop-x in
    let t = zip_turn c.args.abs_x.now c.args.y.now l.yielded c.into_iter-x-iterator.result l.x-iterator c.next.new.self _ (cc) (cc) l.yielded_by _ c.in-Some.is c.next.ensures.steps in
    let w = c.with_terms-r.ensures (add binary32) (λ a b r h. search rules) in
    rw w (joined_more _ _ _ _ _ _ _ l.invariant (t.3 0) (t.2 nan) (length_push l.yielded _))

pub returns : goal.returns
returns c =
    let l = c.loop-x in
    let e : length l.yielded ≡ min (length c.args.abs_x.now) (length c.args.y.now) = zip_end c.args.abs_x.now c.args.y.now l.yielded c.into_iter-x-iterator.result l.x-iterator c.next.new.self _ (cc) (cc) l.yielded_by c.in-None.is c.next.ensures.steps in
    let k : length l.yielded ≡ 16 = omega arith in
    rw k at l.invariant
