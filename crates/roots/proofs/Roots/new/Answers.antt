-- The decimals of the code are the f32s with the written patterns: computed over the whole table.
use mathlib.Core.Path.{refl}
use Rattle.roots.specs.Root.{root_bits, root_table}
use Rattle.roots.proofs.Roots.new.Goals as goal

pub invariant_of-result : goal.invariant_of-result
unfolding root_table root_bits
invariant_of-result c = record { is_table = refl }
