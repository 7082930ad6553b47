-- The choices in order: a shape's own, or those of the shapes after it; how many there are; each has a gain, and each gain of the tables has one. Assumes nothing.
use mathlib.Core.Path.{◌≡◌, refl, sym, ap, ◌∙◌, subst}
use mathlib.Core.Bool.{Bool}
use mathlib.Core.List.{List, [], ◌∷◌, ◌++◌}
use Prim.Native.Nat.{ℕ, zero, suc, ◌+◌, ◌-◌, ◌≤◌, ◌<◌}
use native.Mathlib.Nat.{add-zero, zero-add, add-suc, suc-add, le_trans, le_of_suc-le-suc, not-suc-le-zero}
use native.Mathlib.Omega.{arith}
use lib.Dec.{T, leb, ltb, leb→le, ltb→lt, lit≤}
use lib.ListN.{length, get_or, length-append, get_or-append}
use lib.Seq.{get_or-append-add}
use lib.Ieee.{Float}
use Rattle.float_laws.proofs.Scan.{least_under}
use Rattle.list_laws.specs.Every.{both, every_below}
use Rattle.list_laws.proofs.Every.{both_left, both_right, at_below}
use Rattle.list_laws.specs.ListOf.{list_of}
use Rattle.list_laws.proofs.ListOf.{length_list_of, get_or_list_of}
use Rattle.sns_tables.specs.Gains.{gain_rows, gains_of}
use Rattle.candidates.specs.declared.Choice.{Choice}
use Rattle.candidates.specs.Scan.{gains_scanned, scanned_from, scanned, choices, choice_at, distortion_at, winner_of}
use Rattle.candidates.specs.Claims.{InAll, AllTried}

module _ (s c : ℕ) (cs : List ℕ) where
  own : List Choice
  own = list_of c (λ gain. record { shape = s; gain = gain })

  scan_is : scanned_from s (c ∷ cs) ≡ own ++ scanned_from (suc s) cs
  unfolding scanned_from own
  scan_is = refl

  own_length : length own ≡ c
  unfolding own
  own_length = length_list_of c (λ gain. record { shape = s; gain = gain })

  pub scan_length : length (scanned_from s (c ∷ cs)) ≡ c + length (scanned_from (suc s) cs)
  scan_length = ap length scan_is ∙ length-append own (scanned_from (suc s) cs) ∙ ap (λ (n : ℕ). n + length (scanned_from (suc s) cs)) own_length

  -- one of this shape's
  pub choice_own : (k : ℕ) (z : Choice) → k < c → ◌≡◌ {A = Choice} (record { shape = s; gain = k }) (get_or (scanned_from s (c ∷ cs)) k z)
  unfolding own
  choice_own k z h =
      sym
      (ap (λ (l : List Choice). get_or l k z) scan_is ∙ get_or-append own (scanned_from (suc s) cs) z k (subst (λ (n : ℕ). k < n) (sym own_length) h)
      ∙ get_or_list_of c (λ gain. record { shape = s; gain = gain }) z k h)

  -- one of a later shape's
  pub choice_past : (k : ℕ) (z : Choice) → c ≤ k → get_or (scanned_from (suc s) cs) (k - c) z ≡ get_or (scanned_from s (c ∷ cs)) k z
  choice_past k z h =
      let e : length own + (k - c) ≡ k = omega (arith, own_length) in
      sym
      (ap (λ (l : List Choice). get_or l k z) scan_is ∙ ap (λ (n : ℕ). get_or (own ++ scanned_from (suc s) cs) n z) (sym e) ∙ get_or-append-add own (scanned_from (suc s) cs) (k - c) z)

pub choices_are : InAll
unfolding scanned scanned_from gains_scanned list_of
choices_are = refl

-- ---- where a shape's gain stands: past those of the shapes before it
place : List ℕ → ℕ → ℕ → ℕ
place [] i gain = gain
place (c ∷ cs) zero gain = gain
place (c ∷ cs) (suc i) gain = c + place cs i gain

-- the scan from shape s on has the gains of the i-th shape after it
tried_at : (s : ℕ) (cs : List ℕ) (i gain : ℕ) (z : Choice) → i < length cs → gain < get_or cs i 0
    → (place cs i gain < length (scanned_from s cs)) × ◌≡◌ {A = Choice} (get_or (scanned_from s cs) (place cs i gain) z) (record { shape = s + i; gain = gain })
unfolding place
tried_at s [] i gain z h g = absurd (not-suc-le-zero h)
tried_at s (c ∷ cs) zero gain z h g =
    (omega (arith, scan_length s c cs), sym (choice_own s c cs gain z g) ∙ ap (λ (n : ℕ). record { shape = n; gain = gain }) (sym (add-zero s)))
tried_at s (c ∷ cs) (suc i) gain z h g =
    let p = place cs i gain in
    let l = tried_at (suc s) cs i gain z (le_of_suc-le-suc h) g in
    (omega (arith, scan_length s c cs, l.0), past p ∙ l.1 ∙ ap (λ (n : ℕ). record { shape = n; gain = gain }) (suc-add s i ∙ sym (add-suc s i)))
  where
    past : (p : ℕ) → get_or (scanned_from s (c ∷ cs)) (c + p) z ≡ get_or (scanned_from (suc s) cs) p z
    past p = sym (choice_past s c cs (c + p) z (omega arith)) ∙ ap (λ (n : ℕ). get_or (scanned_from (suc s) cs) n z) (omega arith)

-- one computed test: no gain that the tables hold is left out
held : ℕ → Bool
held shape = leb (gains_of shape) (get_or gains_scanned shape 0)

all_held : T (every_below 4 held)
unfolding held gains_scanned gain_rows
all_held = tt

four_shapes : 4 ≤ length gains_scanned
unfolding gains_scanned
four_shapes = lit≤ tt

pub all_tried : AllTried
unfolding scanned held
all_tried shape gain h g =
    let t = tried_at 0 gains_scanned shape gain (record { shape = 0; gain = 0 }) (le_trans h four_shapes) (le_trans g (leb→le (gains_of shape) (get_or gains_scanned shape 0) (at_below 4 held all_held shape h))) in
    record { choice = place gains_scanned shape gain; below = t.0; is = t.1 ∙ ap (λ (n : ℕ). record { shape = n; gain = gain }) (zero-add shape) }

-- one computed test: each choice's shape is below 4, and its gain is one that the shape has
sound : ℕ → Bool
sound i = both (ltb (choice_at i).shape 4) (ltb (choice_at i).gain (gains_of (choice_at i).shape))

all_sound : T (every_below choices sound)
unfolding sound scanned scanned_from gains_scanned list_of gain_rows
all_sound = tt

pub choice_shape : (i : ℕ) → i < choices → (choice_at i).shape < 4
unfolding sound
choice_shape i h = ltb→lt (choice_at i).shape 4 (both_left (ltb (choice_at i).shape 4) (ltb (choice_at i).gain (gains_of (choice_at i).shape)) (at_below choices sound all_sound i h))

pub choice_gain : (i : ℕ) → i < choices → (choice_at i).gain < gains_of (choice_at i).shape
unfolding sound
choice_gain i h =
    ltb→lt (choice_at i).gain (gains_of (choice_at i).shape) (both_right (ltb (choice_at i).shape 4) (ltb (choice_at i).gain (gains_of (choice_at i).shape)) (at_below choices sound all_sound i h))

-- and it is below 8, whatever the shape
small : ℕ → Bool
small i = ltb (choice_at i).gain 8

all_small : T (every_below choices small)
unfolding small scanned scanned_from gains_scanned list_of
all_small = tt

pub choice_small : (i : ℕ) → i < choices → (choice_at i).gain < 8
unfolding small
choice_small i h = ltb→lt (choice_at i).gain 8 (at_below choices small all_small i h)

pub winner_under : (t : List Float) (q : List (List Float)) → winner_of t q < choices
unfolding winner_of
winner_under t q = omega (arith, choices_are, least_under (distortion_at t q) (choices - 1))
