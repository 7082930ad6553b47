-- A pulse of at most 10 fits an i32, and so does its square.
use native.Mathlib.Omega.{arith}
use Rattle.pulse_length.proofs.Squares.{plain, squared, square_fits}
use mir.Facts.{to_z-of_z}
use native.Mathlib.Nat.{mul-le-mul}
use Rattle.pulse_length.proofs.square.Goals as goal

pub overflow_mul-result : goal.overflow_mul-result
overflow_mul-result c = rw (plain c.args.y c.requires, squared c.args.y c.requires) (square_fits c.args.y c.requires)

pub overflow_cast-result : goal.overflow_cast-result
overflow_cast-result c =
    let y = c.args.y in
    let h = c.requires in
    rw (plain y h, squared y h, to_z-of_z (square_fits y h)) (tt, record { fits = omega (arith, mul-le-mul h h) })

pub returns : goal.returns
returns c =
    let y = c.args.y in
    let h = c.requires in
    rw (plain y h, squared y h, to_z-of_z (square_fits y h))
