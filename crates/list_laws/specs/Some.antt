-- A test that passes somewhere. Definitions only.
use Rattle.std.specs.Prelude.{Bool, false, ◌||◌, ℕ, zero, suc}

-- the test f passes at some number below n
unfoldable pub some_below : ℕ → (ℕ → Bool) → Bool
some_below zero f = false
some_below (suc n) f = f n || some_below n f
