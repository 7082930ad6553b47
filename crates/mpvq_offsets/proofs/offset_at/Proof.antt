-- Each arm of the `match` gives the entry at its place, which is the offset there: one law, found for each arm, a row of them a line.
use mathlib.Core.Path.{◌≡◌, refl}
use Prim.Native.Nat.{ℕ, zero, suc, ◌≤◌}
use borrow.Author.Rules.{rules}
use native.Mathlib.Omega.{arith}
use Rattle.mpvq_offsets.proofs.Offsets.{offset_rows, arm}
use Rattle.mpvq_offsets.proofs.offset_at.Statement.{statement}
use Rattle.mpvq_offsets.proofs.offset_at.Tie as tie

-- the `_` arm knows that the place is none of those before it, so it is the last
abbrev Others : ℕ → ℕ → Type 0
Others zero i = Unit
Others (suc p) i = Others p i × (i ≡ p → ⊥)

others : (p i : ℕ) → Others p i → p ≤ i
others zero i o = omega arith
others (suc p) i o = let h = others p i o.0 in let q = o.1 in omega arith

last : tie.Need-returns-in_default
unfolding offset_rows
last c =
    let place = c.before.args.place in
    let h : 175 ≤ place = others 175 _ c.in_default.in_default-own.rest in
    arm place 175 _ (search rules) (omega (arith, h, c.before.requires)) refl

pub offset_at_spec : {M : Type 1} → statement M
unfolding offset_rows
offset_at_spec =
    tie.close
    (tie.spec
    (λ c. search arm) (λ c. search arm) (λ c. search arm) (λ c. search arm) (λ c. search arm) (λ c. search arm) (λ c. search arm) (λ c. search arm) (λ c. search arm) (λ c. search arm) (λ c. search arm)
    (λ c. search arm) (λ c. search arm) (λ c. search arm) (λ c. search arm) (λ c. search arm) (λ c. search arm) (λ c. search arm) (λ c. search arm) (λ c. search arm) (λ c. search arm) (λ c. search arm)
    (λ c. search arm) (λ c. search arm) (λ c. search arm) (λ c. search arm) (λ c. search arm) (λ c. search arm) (λ c. search arm) (λ c. search arm) (λ c. search arm) (λ c. search arm) (λ c. search arm)
    (λ c. search arm) (λ c. search arm) (λ c. search arm) (λ c. search arm) (λ c. search arm) (λ c. search arm) (λ c. search arm) (λ c. search arm) (λ c. search arm) (λ c. search arm) (λ c. search arm)
    (λ c. search arm) (λ c. search arm) (λ c. search arm) (λ c. search arm) (λ c. search arm) (λ c. search arm) (λ c. search arm) (λ c. search arm) (λ c. search arm) (λ c. search arm) (λ c. search arm)
    (λ c. search arm) (λ c. search arm) (λ c. search arm) (λ c. search arm) (λ c. search arm) (λ c. search arm) (λ c. search arm) (λ c. search arm) (λ c. search arm) (λ c. search arm) (λ c. search arm)
    (λ c. search arm) (λ c. search arm) (λ c. search arm) (λ c. search arm) (λ c. search arm) (λ c. search arm) (λ c. search arm) (λ c. search arm) (λ c. search arm) (λ c. search arm) (λ c. search arm)
    (λ c. search arm) (λ c. search arm) (λ c. search arm) (λ c. search arm) (λ c. search arm) (λ c. search arm) (λ c. search arm) (λ c. search arm) (λ c. search arm) (λ c. search arm) (λ c. search arm)
    (λ c. search arm) (λ c. search arm) (λ c. search arm) (λ c. search arm) (λ c. search arm) (λ c. search arm) (λ c. search arm) (λ c. search arm) (λ c. search arm) (λ c. search arm) (λ c. search arm)
    (λ c. search arm) (λ c. search arm) (λ c. search arm) (λ c. search arm) (λ c. search arm) (λ c. search arm) (λ c. search arm) (λ c. search arm) (λ c. search arm) (λ c. search arm) (λ c. search arm)
    (λ c. search arm) (λ c. search arm) (λ c. search arm) (λ c. search arm) (λ c. search arm) (λ c. search arm) (λ c. search arm) (λ c. search arm) (λ c. search arm) (λ c. search arm) (λ c. search arm)
    (λ c. search arm) (λ c. search arm) (λ c. search arm) (λ c. search arm) (λ c. search arm) (λ c. search arm) (λ c. search arm) (λ c. search arm) (λ c. search arm) (λ c. search arm) (λ c. search arm)
    (λ c. search arm) (λ c. search arm) (λ c. search arm) (λ c. search arm) (λ c. search arm) (λ c. search arm) (λ c. search arm) (λ c. search arm) (λ c. search arm) (λ c. search arm) (λ c. search arm)
    (λ c. search arm) (λ c. search arm) (λ c. search arm) (λ c. search arm) (λ c. search arm) (λ c. search arm) (λ c. search arm) (λ c. search arm) (λ c. search arm) (λ c. search arm) (λ c. search arm)
    (λ c. search arm) (λ c. search arm) (λ c. search arm) (λ c. search arm) (λ c. search arm) (λ c. search arm) (λ c. search arm) (λ c. search arm) (λ c. search arm) (λ c. search arm) (λ c. search arm)
    (λ c. search arm) (λ c. search arm) (λ c. search arm) (λ c. search arm) (λ c. search arm) (λ c. search arm) (λ c. search arm) (λ c. search arm) (λ c. search arm) (λ c. search arm) last)
