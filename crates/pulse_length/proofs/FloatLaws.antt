-- Sixteen pulses as floats, by their places. Assumes nothing.
use mathlib.Core.Path.{◌≡◌, sym, ap, ◌∙◌}
use mathlib.Core.List.{List}
use Prim.Native.Nat.{ℕ, ◌<◌}
use lib.IntN.{ℤ, pos}
use lib.ListN.{length, get_or, length-map, get_or-map}
use lib.Ieee.{Float, nan, binary32, of_int}
use Rattle.list_laws.specs.ListOf.{list_of}
use Rattle.list_laws.proofs.ListOf.{is_list_of, get_or_list_of}
use Rattle.pulse_length.specs.Length.{floats_of}

pub floats_are : (y : List ℤ) → length y ≡ 16 → list_of 16 (λ k. of_int binary32 (get_or y k (pos 0))) ≡ floats_of y
floats_are y l = sym (is_list_of 16 (λ k. of_int binary32 (get_or y k (pos 0))) (of_int binary32 (pos 0)) (floats_of y) (length-map y (of_int binary32) ∙ l) (λ i h. get_or-map (of_int binary32) y i (pos 0)))

pub float_at : (y : List ℤ) → length y ≡ 16 → (n : ℕ) → n < 16 → get_or (floats_of y) n nan ≡ of_int binary32 (get_or y n (pos 0))
float_at y l n h = ap (λ (x : List Float). get_or x n nan) (sym (floats_are y l)) ∙ get_or_list_of 16 (λ k. of_int binary32 (get_or y k (pos 0))) nan n h
