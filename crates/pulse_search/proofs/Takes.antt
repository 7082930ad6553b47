-- A place that strictly beats every other is the one that the scan takes: by the asymmetry of `<` alone. Assumes nothing.
use mathlib.Core.Path.{◌≡◌, refl, sym, ap, ◌∙◌}
use mathlib.Core.Bool.{Bool, true, false, cond}
use mathlib.Core.List.{List}
use Prim.Native.Nat.{ℕ, ◌≤◌, ◌<◌}
use native.Mathlib.Omega.{arith}
use borrow.Author.Tests.{le-leb, not-true, not-false}
use lib.Dec.{T, leb}
use lib.ListN.{get_or}
use lib.Ieee.{Float, nan, binary32, add, mul, lt}
use Rattle.float_laws.proofs.Logic.{yes}
use Rattle.float_laws.proofs.Scan.{scan_takes}
use Rattle.float_laws.proofs.Order.{lt_asym, lt_irrefl}
use Rattle.float_laws.specs.Literal.{nought, one, two, squared}
use Rattle.list_laws.proofs.ListOf.{get_or_list_of}
use Rattle.pulse_search.specs.declared.SearchRecord.{SearchRecord}
use Rattle.pulse_search.specs.Pulse.{pair_at, replaces, best_to}
use Rattle.float_laws.specs.Whole.{amount}
use Rattle.pulse_guess.specs.Lanes.{first_of, squared_lanes, energies_of, unbeaten_by, count_to}
use Rattle.pulse_guess.proofs.Counted.{only_one}

holds : (b : Bool) → T b → b ≡ true
holds true t = refl
holds false t = absurd t

-- ---- the scan takes a place that beats all others
module _ (a : List Float) (y : List ℕ) (r : SearchRecord) (last g : ℕ) (w : (n : ℕ) → n ≤ last → (n ≡ g → ⊥) → replaces (pair_at a y r g) (pair_at a y r n) ≡ true) where
  beaten_stays : (n : ℕ) → n ≤ last → (n ≡ g → ⊥) → replaces (pair_at a y r n) (pair_at a y r g) ≡ false
  unfolding replaces
  beaten_stays n h d = not-true _ (holds _ (lt_asym _ _ (yes (w n h d))))

  pub takes : g ≤ last → g ≡ best_to a y r last
  unfolding best_to
  takes h = scan_takes (λ n best. replaces (pair_at a y r n) (pair_at a y r best)) last g w beaten_stays h

-- ---- what the lanes hold
module _ (a : List Float) (y : List ℕ) (r : SearchRecord) (last : ℕ) (l : last < 16) where
  lane_square : (n : ℕ) → n ≤ last → get_or (squared_lanes (first_of a last) r.correlation) n nan ≡ squared (pair_at a y r n).correlation
  unfolding squared_lanes first_of pair_at
  lane_square n h =
      let i : n < 16 = omega arith in
      get_or_list_of 16 (λ n. squared (add binary32 r.correlation (get_or (first_of a last) n nan))) nan n i
      ∙ ap (λ (x : Float). squared (add binary32 r.correlation x)) (get_or_list_of 16 (λ n. cond (leb n last) (get_or a n nan) nought) nan n i ∙ ap (λ (b : Bool). cond b (get_or a n nan) nought) (le-leb n last h))

  lane_energy : (n : ℕ) → n ≤ last → get_or (energies_of y r.energy) n nan ≡ (pair_at a y r n).energy
  unfolding energies_of pair_at
  lane_energy n h = get_or_list_of 16 (λ n. add binary32 (add binary32 r.energy (mul binary32 two (amount y n))) one) nan n (omega arith)

  -- one unbeaten place is the guess itself
  pub guess_is : (low c e : List Float) (g k : ℕ) → low ≡ first_of a last → c ≡ squared_lanes low r.correlation → e ≡ energies_of y r.energy → g ≤ last → k ≡ count_to (unbeaten_by c e g) 16 → k ≡ 1 → g ≡ best_to a y r last
  unfolding unbeaten_by replaces
  guess_is low c e g k o p q h u v = takes a y r last g wins h
    where
      itself : unbeaten_by c e g g ≡ true
      itself = holds _ (lt_irrefl (mul binary32 (get_or c g nan) (get_or e g nan)))

      wins : (n : ℕ) → n ≤ last → (n ≡ g → ⊥) → replaces (pair_at a y r g) (pair_at a y r n) ≡ true
      wins n i d =
          let w = not-false (lt (mul binary32 (get_or c n nan) (get_or e g nan)) (mul binary32 (get_or c g nan) (get_or e n nan))) (only_one (unbeaten_by c e g) 16 g (sym u ∙ v) (omega arith) itself n (omega arith) d) in
          rw (p, o, q, lane_square n i, lane_square g h, lane_energy n i, lane_energy g h) at w
