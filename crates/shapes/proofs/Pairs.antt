-- The set of a pair, where the pair is one of the four, and none where it is not. Assumes nothing.
use mathlib.Core.Path.{◌≡◌, sym, ap}
use mathlib.Core.Bool.{Bool, true, false, cond}
use Prim.Native.Nat.{ℕ}
use Rattle.std.specs.Prelude.{Some, None}
use Rattle.shapes.specs.declared.PulseSet.{PulseSet}
use Rattle.shapes.specs.Sets.{set_of, paired, found_of}

pub found : (n k a b : ℕ) (s : PulseSet) → n ≡ a → k ≡ b → paired a b ≡ true → s ≡ set_of a b → Some s ≡ found_of n k
unfolding found_of
found n k a b s p q t e = rw (p, q, e) (ap (λ (x : Bool). cond x (Some (set_of a b)) None) (sym t))

pub missing : (n k : ℕ) → paired n k ≡ false → None ≡ found_of n k
unfolding found_of
missing n k t = ap (λ (x : Bool). cond x (Some (set_of n k)) None) (sym t)
