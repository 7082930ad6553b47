-- The loop is the definition, a place at a time.
use Rattle.std.proofs.Common.{◌≡◌, ◌+◌, ◌<◌, ℕ, List, take, refl, ap, ◌∙◌, get_or, add-one, arith, rules}
use Rattle.std.proofs.lemmas.List.{get_or-take, length-take}
use Rattle.pulse_search.specs.Pulse.{sum_over}
use Rattle.pulse_search.proofs.total.Goals as goal

pub loop-pulses-init : goal.loop-pulses-init
unfolding sum_over
loop-pulses-init c = (refl, search rules)

-- what a turn adds
pulses_at : (y : List ℕ) (n i k : ℕ) → i < n → k ≡ get_or (take n y) i 0 → k ≡ get_or y i 0
pulses_at y n i k h e = e ∙ get_or-take n y i 0 h

pub overflow_add-k : goal.overflow_add-k
overflow_add-k c =
    let l = c.loop-pulses in
    let i = l.pulses-index in
    let below : i < c.args.n = grind (arith, length-take) in
    let e = pulses_at c.args.y.now c.args.n i _ below c.from-k.ensures in
    record { fits = omega (arith, e, c.fits-y i, l.invariant.1) }

pub loop-pulses-preserved : goal.loop-pulses-preserved
unfolding sum_over
loop-pulses-preserved c =
    let l = c.loop-pulses in
    let i = l.pulses-index in
    let n = c.args.n in
    let y = c.args.y.now in
    let below : i < n = grind (arith, length-take) in
    let e : c.from-k.result ≡ get_or y i 0 = pulses_at y n i _ below c.from-k.ensures in
    let f = c.fits-y i in
    (rw (add-one, e) (ap (λ (z : ℕ). z + get_or y i 0) l.invariant.0), omega (arith, e, f, l.invariant.1))
