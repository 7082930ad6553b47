-- Each answer is the whole number that the tests enclose.
use mathlib.Core.Path.{refl, sym}
use lib.IntN.{pos}
use lib.Ieee.{of_bits}
use Rattle.float_laws.proofs.Logic.{yes, no}
use Rattle.float_laws.proofs.Unsigned.{own_unsigned, not_below}
use Rattle.float_laws.proofs.Floor.{floor_is}
use Rattle.projection.proofs.floor.Goals as goal

pub returns-then-p : goal.returns-then-p
unfolding of_bits
returns-then-p c =
    let u = own_unsigned _ c.requires.0 in
    sym (floor_is 0 0 1 (pos 0) (pos 0) refl refl _ u (not_below _ u) (yes c.if-p.true)).1

pub returns-then-p-2 : goal.returns-then-p-2
unfolding of_bits
returns-then-p-2 c = sym (floor_is 1 1 1 (pos 0) (pos 1) refl refl _ (own_unsigned _ c.requires.0) (no c.if-p.false) (yes c.if-p-2.true)).1

pub returns-then-p-3 : goal.returns-then-p-3
unfolding of_bits
returns-then-p-3 c = sym (floor_is 2 1 3 (pos 1) (pos 0) refl refl _ (own_unsigned _ c.requires.0) (no c.if-p-2.false) (yes c.if-p-3.true)).1

pub returns-then-p-4 : goal.returns-then-p-4
unfolding of_bits
returns-then-p-4 c = sym (floor_is 3 3 1 (pos 0) (pos 2) refl refl _ (own_unsigned _ c.requires.0) (no c.if-p-3.false) (yes c.if-p-4.true)).1

pub returns-then-p-5 : goal.returns-then-p-5
unfolding of_bits
returns-then-p-5 c = sym (floor_is 4 1 5 (pos 2) (pos 0) refl refl _ (own_unsigned _ c.requires.0) (no c.if-p-4.false) (yes c.if-p-5.true)).1

pub returns-then-p-6 : goal.returns-then-p-6
unfolding of_bits
returns-then-p-6 c = sym (floor_is 5 5 3 (pos 0) (pos 1) refl refl _ (own_unsigned _ c.requires.0) (no c.if-p-5.false) (yes c.if-p-6.true)).1

pub returns : goal.returns
unfolding of_bits
returns c = sym (floor_is 6 3 7 (pos 1) (pos 0) refl refl _ (own_unsigned _ c.requires.0) (no c.if-p-6.false) c.requires.1).1
