-- The seven digits of the places have a first one, and all of them are ASCII.
use Rattle.std.proofs.Common.{◌+◌, ◌%◌, ◌<◌, length, arith}
use Rattle.std.specs.Fmt.{decimal}
use Rattle.std.proofs.lemmas.Fmt.{decimal_nonempty}
use Rattle.program_text.proofs.DecimalDisplay.fmt.Goals as goal

pub range_from-requires : goal.range_from-requires
range_from-requires g c = λ o.
    let n = 1000000 + c.millionths-number.result % 1000000 in
    let some : 0 < length (decimal n) = decimal_nonempty n (omega arith) in
    (rw (c.format.ensures.text) some, λ l h. omega (arith, h, c.format.ensures.ascii 1))
