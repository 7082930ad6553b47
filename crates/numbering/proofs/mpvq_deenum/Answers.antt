-- The invariant: the part that is filled, with the vector that is to come, is the whole.
use mathlib.Core.Path.{◌≡◌, ◌∙◌}
use mathlib.Core.Logic.{◌⊎◌, inl, inr, ⊎_elim}
use Prim.Native.Nat.{◌-◌, ◌≤◌, ◌<◌}
use native.Mathlib.Nat.{sub-zero}
use native.Mathlib.Omega.{arith}
use borrow.Author.Rules.{rules}
use Rattle.std.proofs.lemmas.List.{length-take}
use mir.Syntax.{w32}
use mir.Val.{to_z, of_z}
use mir.Facts.{to_z-of_z}
use Rattle.columns.proofs.Columns.{column_within}
use Rattle.numbering.proofs.Walk.{goes_on, stops, ended}
use Rattle.numbering.proofs.mpvq_deenum.Goals as goal
use Rattle.numbering.proofs.mpvq_deenum.Goals.{After-column-left}

pub loop-pos-init : goal.loop-pos-init
loop-pos-init c = (search rules, rw sub-zero)

pub returns-then-k_max_local-lt2 : goal.returns-then-k_max_local-lt2
returns-then-k_max_local-lt2 c =
    let l = c.loop-pos in
    let z : (l.k_max_local < 2) ⊎ (l.ind ≡ 0) = ⊎_elim (λ h. inl h) (λ h. inr h.1) c.then-k_max_local-lt2.either in
    stops c.args.dim l.pos l.k_max_local l.leading_sign l.ind l.out _ l.invariant.1
    c.loop-pos-test.true (search rules) _ _ z (grind (arith, length-take)) c.at_one_place.ensures

-- the column found is at most the one before
below : (c : After-column-left) → c.column-left.result.pulses ≤ c.loop-pos.k_max_local
below c =
    omega (arith, c.column-left.ensures.0, column_within (c.args.dim - 1 - c.loop-pos.pos) c.loop-pos.k_max_local c.loop-pos.ind)

pub overflow_sub-k_delta : goal.overflow_sub-k_delta
overflow_sub-k_delta c = omega (arith, below (goal.at.overflow_sub-k_delta c).After-column-left)

pub loop-pos-preserved : goal.loop-pos-preserved
loop-pos-preserved c =
    let l = c.loop-pos in
    let p = c.mind2vec_one in (
      omega (arith, below (goal.at.loop-pos-preserved c).After-column-left),
      goes_on c.args.dim l.pos l.k_max_local l.leading_sign l.ind l.out _ l.invariant.1
          c.loop-pos-test.true (search rules) (to_z w32 (of_z w32 p.result)) c.column-left.result.pulses c.column-left.result.rest
          c.setval_update_sign-next.result.sign c.setval_update_sign-next.result.index c.column-left.ensures.0 c.column-left.ensures.1
          (to_z-of_z {w = w32} (record { sfits = p.type_inv }) ∙ p.ensures) c.setval_update_sign-next.ensures.0 c.setval_update_sign-next.ensures.1,
    )

pub returns : goal.returns
returns c = ended c.args.dim c.loop-pos.pos c.loop-pos.k_max_local c.loop-pos.leading_sign c.loop-pos.ind c.loop-pos.out _ c.loop-pos.invariant.1 (omega arith) (search rules)
