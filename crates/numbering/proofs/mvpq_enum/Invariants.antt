-- The state is the number of the vector from the place on: its last places, as many as the loop has seen.
use Rattle.std.proofs.Common.{◌≡◌, ◌-◌, length, drop}
use Rattle.numbering.specs.Numbering.{pulses_of, lead_sign, index_of}
use Rattle.numbering.proofs.mvpq_enum.Given as goal

abbrev pub invariant-loop-n : goal.invariant-loop-n
invariant-loop-n l =
    let rest = drop (length l.v - length l.yielded) l.v in
    (l.index ≡ index_of rest) × (l.next_sign ≡ lead_sign rest) × (l.k_val_acc ≡ pulses_of rest)
