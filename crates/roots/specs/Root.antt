-- The f32 nearest to the square root of a whole number from 1 to 101, by comparing whole-number squares. Definitions only.
use Rattle.std.specs.Prelude.{List, [], ◌∷◌, map, ℕ, ◌+◌, ◌-◌, ◌*◌, ◌<◌, T, get_or, Float}
use Rattle.std.specs.Float.{binary32}
use Rattle.std.specs.Float.Ieee.{of_bits, fits, lt}
use Rattle.float_laws.specs.Fraction.{numerator, denominator, positive}

-- x + y, as a fraction over the product of the two denominators: twice their midpoint
abbrev pub joint : Float → Float → ℕ
joint x y = numerator x * denominator y + numerator y * denominator x

abbrev pub over : Float → Float → ℕ
over x y = denominator x * denominator y

-- the midpoint of x and y lies below the square root of n: (x + y)² < 4 n
abbrev pub Below : Float → Float → ℕ → Type 0
Below x y n = joint x y * joint x y < 4 * n * (over x y * over x y)

-- and above it
abbrev pub Above : Float → Float → ℕ → Type 0
Above x y n = 4 * n * (over x y * over x y) < joint x y * joint x y

-- r is the f32 nearest to the square root of n: r's midpoint with every smaller f32 that is not below zero lies below the root, and with every larger one above it
pub record Nearest (n : ℕ) (r : Float) : Type 0 where
  pub held : T (fits binary32 r)
  pub plus : T (positive r)
  pub below : (x : Float) → T (fits binary32 x) → T (positive x) → T (lt x r) → Below x r n
  pub above : (x : Float) → T (fits binary32 x) → T (positive x) → T (lt r x) → Above x r n

-- the patterns of the roots of 1 to 101
unfoldable pub root_bits : List ℕ
root_bits =
    1065353216 ∷ 1068827891 ∷ 1071494103 ∷ 1073741824 ∷ 1074731965 ∷ 1075627121 ∷ 1076450301 ∷ 1077216499 ∷
    1077936128 ∷ 1078616770 ∷ 1079264149 ∷ 1079882711 ∷ 1080475994 ∷ 1081046865 ∷ 1081597686 ∷ 1082130432 ∷
    1082388603 ∷ 1082639286 ∷ 1082883098 ∷ 1083120573 ∷ 1083352182 ∷ 1083578339 ∷ 1083799412 ∷ 1084015729 ∷
    1084227584 ∷ 1084435243 ∷ 1084638945 ∷ 1084838909 ∷ 1085035333 ∷ 1085228399 ∷ 1085418272 ∷ 1085605107 ∷
    1085789045 ∷ 1085970216 ∷ 1086148743 ∷ 1086324736 ∷ 1086498302 ∷ 1086669537 ∷ 1086838534 ∷ 1087005378 ∷
    1087170149 ∷ 1087332922 ∷ 1087493769 ∷ 1087652757 ∷ 1087809947 ∷ 1087965401 ∷ 1088119174 ∷ 1088271319 ∷
    1088421888 ∷ 1088570928 ∷ 1088718485 ∷ 1088864602 ∷ 1089009321 ∷ 1089152681 ∷ 1089294719 ∷ 1089435473 ∷
    1089574974 ∷ 1089713258 ∷ 1089850354 ∷ 1089986294 ∷ 1090121105 ∷ 1090254815 ∷ 1090387452 ∷ 1090519040 ∷
    1090584322 ∷ 1090649104 ∷ 1090713396 ∷ 1090777211 ∷ 1090840558 ∷ 1090903448 ∷ 1090965890 ∷ 1091027894 ∷
    1091089469 ∷ 1091150624 ∷ 1091211367 ∷ 1091271706 ∷ 1091331649 ∷ 1091391204 ∷ 1091450379 ∷ 1091509181 ∷
    1091567616 ∷ 1091625692 ∷ 1091683414 ∷ 1091740790 ∷ 1091797825 ∷ 1091854526 ∷ 1091910898 ∷ 1091966947 ∷
    1092022678 ∷ 1092078097 ∷ 1092133210 ∷ 1092188020 ∷ 1092242533 ∷ 1092296754 ∷ 1092350687 ∷ 1092404337 ∷
    1092457708 ∷ 1092510805 ∷ 1092563631 ∷ 1092616192 ∷ 1092668490 ∷ []

-- the root of n; past the table a NaN
unfoldable pub root_of : ℕ → Float
root_of n = of_bits binary32 (get_or root_bits (n - 1) 2143289344)

-- the whole table: entry n - 1 is the root of n
unfoldable pub root_table : List Float
root_table = map (of_bits binary32) root_bits
