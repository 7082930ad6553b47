-- Numbers as text. Definitions only.
use Rattle.std.specs.Prelude.{List, [], ℕ, ◌-◌, ◌^◌, false}
use Rattle.std.specs.Fmt.{digits, format_spec, padded_integral}

-- the hexadecimal digits of n, with zeros before them up to eight
abbrev pub eight_digits : ℕ → List ℕ
eight_digits n = padded_integral (format_spec 32 0 4 8 (2 ^ 64 - 1)) false [] (digits 16 false n)
