-- The residuals, place by place, and how large they are. Assumes nothing.
use mathlib.Core.Path.{sym, ap, ◌∙◌}
use Prim.Native.Nat.{◌+◌}
use native.Mathlib.Nat.{le_refl}
use lib.Dec.{lit<}
use lib.ListN.{get_or}
use lib.Ieee.{nan, binary32, sub}
use Rattle.float_laws.proofs.Size.{whole_exact, sub_within}
use Rattle.list_laws.proofs.ListOf.{get_or_list_of}
use Rattle.sns_tables.specs.Codes.{code_of}
use Rattle.sns_tables.proofs.Codes.{code_within}
use Rattle.stage1.specs.Stage1.{low_row, high_row}
use Rattle.stage1.specs.Claims.{ResidualWithin, ResidualIs}
use Rattle.stage1.proofs.Nearest.{low_inside, high_inside}

pub residual_within : ResidualWithin
residual_within limit room x f n h =
    rw (get_or_list_of 16 (λ i. sub binary32 (get_or x i nan) (code_of (low_row x) (high_row x) i)) nan n h)
    (sub_within binary32 (limit + 5) 1 (lit< tt) (whole_exact binary32 (limit + 5) room) (get_or x n nan) (code_of (low_row x) (high_row x) n) limit 5 (le_refl (limit + 5)) (f n h)
    (code_within (low_row x) (high_row x) n (low_inside x) (high_inside x) h))

pub residual_is : ResidualIs
residual_is x n h = get_or_list_of 16 _ nan n h ∙ ap (sub binary32 (get_or x n nan)) (sym (get_or_list_of 16 (code_of (low_row x) (high_row x)) nan n h))
