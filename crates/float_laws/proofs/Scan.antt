-- A scan, one more at a time, and what it finds. The scan for the least finds the first least: none is smaller, and each earlier one is larger. Assumes nothing.
use mathlib.Core.Path.{◌≡◌, refl, sym, ap, ◌∙◌, subst}
use mathlib.Core.Bool.{Bool, true, false, not, cond}
use Prim.Native.Nat.{ℕ, zero, suc, ◌+◌, ◌≤◌, ◌<◌}
use mathlib.Core.Logic.{inl, inr}
use native.Mathlib.Nat.{le_refl, le_trans, le-suc, le_of_suc-le-suc, eq-or-lt_of_le}
use native.Mathlib.Numerals.{add-one}
use native.Mathlib.Omega.{arith}
use lib.Dec.{T}
use lib.Ieee.{Float, lt, is_nan}
use Rattle.float_laws.specs.Least.{FirstLeast}
use Rattle.float_laws.specs.Scan.{scan_to, least_to}
use Rattle.float_laws.proofs.Least.{first_start, first_keep, first_move}

-- ---- any rule
module _ (r : ℕ → ℕ → Bool) where
  pub scan_none : 0 ≡ scan_to r 0
  unfolding scan_to
  scan_none = refl

  scan_suc : (n : ℕ) → cond (r (suc n) (scan_to r n)) (suc n) (scan_to r n) ≡ scan_to r (suc n)
  unfolding scan_to
  scan_suc n = refl

  -- as a loop's turn has it: b is the best so far, z what the rule says of the next
  module _ (n b : ℕ) (z : Bool) (e : b ≡ scan_to r n) (w : r (n + 1) b ≡ z) where
    turn : cond z (suc n) (scan_to r n) ≡ scan_to r (suc n)
    turn = ap (λ (x : Bool). cond x (suc n) (scan_to r n)) (sym (rw (e, add-one) at w)) ∙ scan_suc n

  pub scan_move : (n b : ℕ) → b ≡ scan_to r n → r (n + 1) b ≡ true → n + 1 ≡ scan_to r (n + 1)
  scan_move n b e w = rw add-one (turn n b true e w)

  pub scan_keep : (n b : ℕ) → b ≡ scan_to r n → r (n + 1) b ≡ false → b ≡ scan_to r (n + 1)
  scan_keep n b e w = rw add-one (e ∙ turn n b false e w)

  pub scan_under : (n : ℕ) → scan_to r n ≤ n
  unfolding scan_to
  scan_under zero = le_refl 0
  scan_under (suc n) = go (r (suc n) (scan_to r n)) (scan_to r n) (scan_under n)
    where
      go : (z : Bool) (b : ℕ) → b ≤ n → cond z (suc n) b ≤ suc n
      go true b h = le_refl (suc n)
      go false b h = le_trans h (le-suc n)

  -- one that replaces every other, and that no other replaces, is found
  module _ (last g : ℕ) (wins : (n : ℕ) → n ≤ last → (n ≡ g → ⊥) → r g n ≡ true) (stays : (n : ℕ) → n ≤ last → (n ≡ g → ⊥) → r n g ≡ false) where
    stands : (m : ℕ) → m ≤ last → g ≤ m → scan_to r m ≡ g
    unfolding scan_to
    stands zero h l = zero_of g l
      where
        zero_of : (g : ℕ) → g ≤ 0 → 0 ≡ g
        zero_of g l = omega arith
    stands (suc m) h l =
        elim (eq-or-lt_of_le l) [
          | inl e ↦
              ap (λ (b : Bool). cond b (suc m) (scan_to r m))
              (subst (λ (k : ℕ). r k (scan_to r m) ≡ true) e
              (wins (scan_to r m) (le_trans (scan_under m) (le_trans (le-suc m) h)) (below (scan_to r m) (scan_under m) e)))
              ∙ sym e
          | inr i ↦
              ap (λ (k : ℕ). cond (r (suc m) k) (suc m) k) (stands m (le_trans (le-suc m) h) (le_of_suc-le-suc i))
              ∙ ap (λ (z : Bool). cond z (suc m) g) (stays (suc m) h (above i))
        ]
      where
        below : (b : ℕ) → b ≤ m → g ≡ suc m → b ≡ g → ⊥
        below b h e f = omega arith

        above : g < suc m → suc m ≡ g → ⊥
        above i e = omega arith

    pub scan_takes : g ≤ last → g ≡ scan_to r last
    scan_takes h = sym (stands last (le_refl last) h)

-- ---- the least
pub least_none : (d : ℕ → Float) → 0 ≡ least_to d 0
unfolding least_to
least_none d = scan_none (λ n best. lt (d n) (d best))

-- as a loop's turn has it: x is the next value, y the least so far
module _ (d : ℕ → Float) (n b : ℕ) (x y : Float) (e : b ≡ least_to d n) (p : x ≡ d (n + 1)) (q : y ≡ d b) where
  pub least_move : lt x y ≡ true → n + 1 ≡ least_to d (n + 1)
  unfolding least_to
  least_move w = scan_move (λ n best. lt (d n) (d best)) n b e (rw (p, q) at w)

  pub least_keep : lt x y ≡ false → b ≡ least_to d (n + 1)
  unfolding least_to
  least_keep w = scan_keep (λ n best. lt (d n) (d best)) n b e (rw (p, q) at w)

pub least_under : (d : ℕ → Float) (n : ℕ) → least_to d n ≤ n
unfolding least_to
least_under d n = scan_under (λ n best. lt (d n) (d best)) n

pub least_first : (d : ℕ → Float) (n : ℕ) → ((i : ℕ) → i < suc n → T (not (is_nan (d i)))) → FirstLeast d (suc n) (least_to d n)
unfolding least_to scan_to
least_first d zero h = first_start d
least_first d (suc n) h = subst (λ (m : ℕ). FirstLeast d m (least_to d (suc n))) (add-one (suc n)) (go (least_first d n fewer) (lt (d (suc n)) (d (least_to d n))) refl)
  where
    fewer : (i : ℕ) → i < suc n → T (not (is_nan (d i)))
    fewer i l = h i (le_trans l (le-suc (suc n)))

    go : FirstLeast d (suc n) (least_to d n) → (z : Bool) → lt (d (suc n)) (d (least_to d n)) ≡ z → FirstLeast d (suc n + 1) (cond z (suc n) (least_to d n))
    go before true e = first_move d (suc n) (least_to d n) before fewer e
    go before false e = first_keep d (suc n) (least_to d n) before e

-- the scan looks at nothing past its last value
pub least_same : (d e : ℕ → Float) (n : ℕ) → ((i : ℕ) → i ≤ n → d i ≡ e i) → least_to d n ≡ least_to e n
unfolding least_to scan_to
least_same d e zero h = refl
least_same d e (suc n) h = go (least_same d e n (λ i l. h i (le_trans l (le-suc n))))
  where
    go : least_to d n ≡ least_to e n → cond (lt (d (suc n)) (d (least_to d n))) (suc n) (least_to d n) ≡ cond (lt (e (suc n)) (e (least_to e n))) (suc n) (least_to e n)
    go r = rw (h (suc n) (le_refl (suc n)), h (least_to d n) (le_trans (least_under d n) (le-suc n)), r)
