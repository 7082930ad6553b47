-- Three columns are read: the one found is k, k - 1 or k - 2, or one of the eight below, which are halved.
use mathlib.Core.Path.{◌≡◌, refl, sym, ap, ◌∙◌}
use Prim.Native.Nat.{suc, ◌-◌, ◌<◌}
use borrow.Author.Rules.{rules}
use native.Mathlib.Omega.{arith}
use Rattle.mpvq_offsets.specs.Offsets.{offset_of}
use Rattle.mpvq_offsets.proofs.Offsets.{at_place}
use Rattle.columns.specs.Column.{column_of}
use Rattle.columns.proofs.Offsets.{mono}
use Rattle.columns.proofs.Columns.{column_falls, Found, found_here, found_next, left_is}
use Rattle.columns.proofs.column.Goals as goal
use Rattle.columns.proofs.column.Goals.{Then-ind-third, Joined-ind-second, then-ind-first, else-ind-first, then-ind-second, else-ind-second}

-- the offset at k - 2 is above the index, so the column is at most k - 3, which is at most 7
falls : (c : Then-ind-third)
    → column_of c.args.n c.args.k c.args.ind
    ≡ column_of c.args.n 7 c.args.ind
falls c =
    let a = c.args in
    let third : c.offset_at-third.result ≡ offset_of a.n (a.k - 2) = c.offset_at-third.ensures ∙ at_place a.n (a.k - 2) _ (omega arith) (omega arith) in
    let above : a.ind < offset_of a.n (a.k - 2) = omega (arith, third, c.if-ind-third.true) in
    column_falls a.n a.k (a.k - 2) a.ind (omega arith) above ∙ sym (column_falls a.n 7 (a.k - 2) a.ind (omega arith) above)

pub returns-then-ind-third : goal.returns-then-ind-third
returns-then-ind-third c = rw (falls (goal.at.returns-then-ind-third c).Then-ind-third) c.column_halved.ensures

pub overflow_sub-pulses-then-ind-second : goal.overflow_sub-pulses-then-ind-second
overflow_sub-pulses-then-ind-second c =
    elim c.if-ind-first.branch [ then-ind-first w ↦ omega (arith, w.pulses-is) | else-ind-first w ↦ omega (arith, w.pulses-is) ]

-- the column that was found, by the way that led here
found : (j : Joined-ind-second) → Found j.args.n j.args.k j.args.ind j.if-ind-second.pulses j.if-ind-second.offset
found j =
    let a = j.args in
    let first : j.offset_at-first.result ≡ offset_of a.n a.k = j.offset_at-first.ensures ∙ at_place a.n a.k _ (search rules) refl in
    let second : j.offset_at-second.result ≡ offset_of a.n (a.k - 1) = j.offset_at-second.ensures ∙ at_place a.n (a.k - 1) _ (omega arith) (omega arith) in
    let third : j.offset_at-third.result ≡ offset_of a.n (a.k - 2) = j.offset_at-third.ensures ∙ at_place a.n (a.k - 2) _ (omega arith) (omega arith) in
    let f : j.offset_at-first.result ≡ offset_of a.n (suc (a.k - 1)) = first ∙ ap (offset_of a.n) (omega arith) in
    let s : j.offset_at-second.result ≡ offset_of a.n (suc (a.k - 2)) = second ∙ ap (offset_of a.n) (omega arith) in
    let two : a.k - 1 - 1 ≡ a.k - 2 = omega arith in
    elim j.if-ind-second.branch [
      | then-ind-second w ↦ rw (w.pulses-is, w.offset-is) (elim j.if-ind-first.branch [
        | then-ind-first v ↦ rw (v.pulses-is, two)
            (found_next a.n a.k a.ind (a.k - 2) j.offset_at-third.result j.offset_at-second.result (omega arith) s w.if-ind-second.true third j.if-ind-third.false)
        | else-ind-first v ↦ absurd (omega (arith, v.if-ind-first.false, w.if-ind-second.true, first, second, mono a.n (a.k - 1) a.k (omega arith)))
      ])
      | else-ind-second w ↦ rw (w.pulses-is, w.offset-is) (elim j.if-ind-first.branch [
        | then-ind-first v ↦ rw (v.pulses-is, v.offset-is)
            (found_next a.n a.k a.ind (a.k - 1) j.offset_at-second.result j.offset_at-first.result (omega arith) f v.if-ind-first.true second w.if-ind-second.false)
        | else-ind-first v ↦ rw (v.pulses-is, v.offset-is) (found_here a.n a.k a.ind j.offset_at-first.result first v.if-ind-first.false)
      ])
    ]

pub overflow_sub-result : goal.overflow_sub-result
overflow_sub-result c = (found (goal.at.overflow_sub-result c).Joined-ind-second).low

pub returns : goal.returns
returns c = left_is _ _ _ _ _ (found (goal.at.returns c).Joined-ind-second)
