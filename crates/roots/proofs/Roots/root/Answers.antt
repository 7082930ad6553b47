-- Entry n - 1 of the table is the root of n.
use mathlib.Core.Path.{◌≡◌, refl}
use mathlib.Core.List.{List}
use Prim.Native.Nat.{ℕ, ◌-◌}
use lib.ListN.{get_or, get_or-map}
use lib.Ieee.{Float, nan, binary32, of_bits}
use Rattle.roots.specs.Root.{root_bits, root_of, root_table}
use Rattle.roots.proofs.Roots.root.Goals as goal

-- past the end stands a NaN's pattern, as the code's default is a NaN
entry : (t : List Float) (k : ℕ) → t ≡ root_table → get_or t k nan ≡ of_bits binary32 (get_or root_bits k 2143289344)
unfolding root_table
entry t k e = rw (e, ← nan_is) (get_or-map (of_bits binary32) root_bits k 2143289344)
  where
    nan_is : of_bits binary32 2143289344 ≡ nan
    nan_is = unfold of_bits in refl

pub returns : goal.returns
unfolding root_of
returns c = entry _ (c.args.n - 1) c.args.self.now.is_table
