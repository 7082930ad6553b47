-- After each turn the pulses and the pair are those of so many single pulses.
use Rattle.std.proofs.Common.{◌≡◌, ◌+◌, ◌<◌, ◌-◌, sym, ap, arith}
use native.Mathlib.Nat.{le_of_eq}
use Rattle.pulse_search.specs.Pulse.{Search}
use Rattle.pulse_search.proofs.Laws.{best_under, search_start, search_step, more_fits}
use Rattle.pulse_search.proofs.add_unit_pulse.Goals as goal

pub loop-init : goal.loop-init
loop-init c =
    let none : c.args.k - c.args.k ≡ 0 = omega arith in
    rw none (search_start _ _ _ _)

pub pair_at-pair-requires : goal.pair_at-pair-requires
pair_at-pair-requires c = omega (arith, best_under _ _ _ _ _ 16 c.best_place-n_best.ensures c.requires.0)

pub bounds-y-n_best : goal.bounds-y-n_best
bounds-y-n_best c = best_under _ _ _ _ _ 16 c.best_place-n_best.ensures c.requires.0

pub overflow_add-y : goal.overflow_add-y
overflow_add-y c =
    let i = c.loop.counter - c.args.k in
    let b : c.best_place-n_best.result < 16 = best_under _ _ _ _ _ 16 c.best_place-n_best.ensures c.requires.0 in
    let fewer : i < c.args.k_max - c.args.k = omega arith in
    let h = more_fits _ _ _ _ 16 255 _ _ _ c.requires.0 (le_of_eq (sym c.requires.1)) (ap (λ (t : Search). t.pulses) c.loop.invariant) b fewer c.requires.3 in
    record { fits = omega (arith, h) }

pub bounds-y-n_best-in-loop : goal.bounds-y-n_best-in-loop
bounds-y-n_best-in-loop c = best_under _ _ _ _ _ 16 c.best_place-n_best.ensures c.requires.0

pub loop-preserved : goal.loop-preserved
loop-preserved c =
    let l = c.loop in
    let one : l.counter + 1 - c.args.k ≡ l.counter - c.args.k + 1 = omega (arith, l.auto.counter) in
    rw one (search_step _ _ _ _ _ _ _ _ l.invariant c.best_place-n_best.ensures c.pair_at-pair.ensures)
