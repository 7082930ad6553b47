-- What the steps hand on to each other. Assumes nothing.
use mathlib.Core.Path.{◌≡◌, ap, ◌∙◌}
use mathlib.Core.List.{List, [], ◌∷◌}
use Prim.Native.Nat.{ℕ, ◌<◌}
use lib.Dec.{lit<}
use lib.IntN.{ℤ}
use lib.ListN.{get_or}
use lib.Ieee.{Float, nan}
use Rattle.list_laws.specs.ListOf.{list_of}
use Rattle.list_laws.proofs.ListOf.{get_or_list_of, same_list_of}
use Rattle.sns_tables.specs.Gains.{gains_of, gain_at}
use Rattle.frame_fields.specs.declared.Numbers.{Numbers}
use Rattle.frame_fields.specs.Accepted.{Indexed}
use Rattle.frame_fields.specs.Joint.{joint_index}
use Rattle.shape_numbers.specs.Pulses.{Shaped}
use Rattle.shape_numbers.specs.Numbers.{numbers_of}
use Rattle.shape_numbers.proofs.Claims.{numbers_indexed}
use Rattle.pulse_length.proofs.Squares.{shaped_sixteen}
use Rattle.synthesis.specs.Synthesis.{scale_of, factor_of}
use Rattle.stage2_target.specs.Target.{target_of}
use Rattle.candidates.specs.declared.Choice.{Choice}
use Rattle.candidates.specs.Scan.{choices, choice_at, gain_of, winner_of}
use Rattle.candidates.proofs.Choices.{choice_shape, choice_small, choice_gain, winner_under}
use Rattle.candidates.specs.Candidate.{candidate_of}
use Rattle.stage2.specs.Stage2.{pulses_for, signed_row, signed_for, FourRows, candidates_of, choice_of, selected_of, result_of, stage2_of}
use Rattle.stage2.specs.declared.Selected.{Selected}
use Rattle.stage2.specs.declared.SnsStage2Result.{SnsStage2Result}
use Rattle.stage2.proofs.Signs.{signed_shaped}

-- ---- rows in a list of four
module _ {A : Type 0} (g : ℕ → List A) (y : List (List A)) (e : y ≡ list_of 4 g) where
  pub row_at : (s : ℕ) → s < 4 → get_or y s [] ≡ g s
  row_at s h = ap (λ (l : List (List A)). get_or l s []) e ∙ get_or_list_of 4 g [] s h

-- the signed rows
pub rows_are : (t : List Float) (y : List (List ℕ)) → y ≡ list_of 4 (pulses_for t) → (v0 v1 v2 v3 : List ℤ)
    → v0 ≡ signed_row t (get_or y 0 []) → v1 ≡ signed_row t (get_or y 1 []) → v2 ≡ signed_row t (get_or y 2 []) → v3 ≡ signed_row t (get_or y 3 [])
    → v0 ∷ v1 ∷ v2 ∷ v3 ∷ [] ≡ list_of 4 (signed_for t)
unfolding list_of
rows_are t y e v0 v1 v2 v3 a b c d =
    let r = row_at (pulses_for t) y e in
    rw (a, b, c, d, r 0 (lit< tt), r 1 (lit< tt), r 2 (lit< tt), r 3 (lit< tt))

pub four_rows : (t : List Float) (v : List (List ℤ)) → v ≡ list_of 4 (signed_for t) → FourRows v
four_rows t v e s h = rw (row_at (signed_for t) v e s h) (shaped_sixteen s (signed_for t s) (signed_shaped t s))

-- the candidates of rows, and of the signed ones
pub four_candidates : (v : List (List ℤ)) (q0 q1 q2 q3 : List Float)
    → q0 ≡ candidate_of (get_or v 0 []) → q1 ≡ candidate_of (get_or v 1 []) → q2 ≡ candidate_of (get_or v 2 []) → q3 ≡ candidate_of (get_or v 3 [])
    → q0 ∷ q1 ∷ q2 ∷ q3 ∷ [] ≡ list_of 4 (λ shape. candidate_of (get_or v shape []))
unfolding list_of
four_candidates v q0 q1 q2 q3 a b c d = rw (a, b, c, d)

pub candidates_are : (t : List Float) (v : List (List ℤ)) (q : List (List Float)) → v ≡ list_of 4 (signed_for t) → q ≡ list_of 4 (λ shape. candidate_of (get_or v shape [])) → q ≡ candidates_of t
unfolding candidates_of
candidates_are t v q e p = p ∙ same_list_of 4 _ _ (λ s h. ap candidate_of (row_at (signed_for t) v e s h))

pub candidate_at : (t : List Float) (s : ℕ) → s < 4 → get_or (candidates_of t) s [] ≡ candidate_of (signed_for t s)
unfolding candidates_of
candidate_at t s h = get_or_list_of 4 (λ shape. candidate_of (signed_for t shape)) [] s h

-- ---- the shape and the gain that win
pub selected_is : (t : List Float) (q : List (List Float)) (gains : List Float) (best : ℕ) (c : Choice) → q ≡ candidates_of t → gains ≡ list_of choices gain_of → best ≡ winner_of t q → c ≡ choice_at best
    → ◌≡◌ {A = Selected} (record { shape_j = c.shape; gind = c.gain; g_gain_i_shape_j = get_or gains best nan }) (selected_of t)
unfolding selected_of choice_of gain_of
selected_is t q gains best c p g b e =
    let i = winner_of t (candidates_of t) in
    let u : get_or (list_of choices gain_of) i nan ≡ gain_at (choice_at i).shape (choice_at i).gain = get_or_list_of choices gain_of nan i (winner_under t (candidates_of t)) in
    rw (e, b, p, g, u)

pub chosen_shape : (t : List Float) → (choice_of t).shape < 4
unfolding choice_of
chosen_shape t = choice_shape (winner_of t (candidates_of t)) (winner_under t (candidates_of t))

pub chosen_small : (t : List Float) → (choice_of t).gain < 8
unfolding choice_of
chosen_small t = choice_small (winner_of t (candidates_of t)) (winner_under t (candidates_of t))

pub chosen_gain : (t : List Float) → (choice_of t).gain < gains_of (choice_of t).shape
unfolding choice_of
chosen_gain t = choice_gain (winner_of t (candidates_of t)) (winner_under t (candidates_of t))

-- ---- what the next steps ask, and all that is given
module _ (t : List Float) (s : Selected) (e : s ≡ selected_of t) where
  pub shape_room : s.shape_j < 4
  unfolding selected_of
  shape_room = rw e (chosen_shape t)

  module _ (v : List (List ℤ)) (f : v ≡ list_of 4 (signed_for t)) where
    pub row_is : get_or v s.shape_j [] ≡ signed_for t s.shape_j
    row_is = row_at (signed_for t) v f s.shape_j shape_room

    pub numbers_room : Shaped s.shape_j (get_or v s.shape_j [])
    numbers_room = rw row_is (signed_shaped t s.shape_j)

    module _ (n : Numbers) (g : n ≡ numbers_of s.shape_j (get_or v s.shape_j [])) where
      pub joint_room : Indexed s.shape_j n
      joint_room = rw g (numbers_indexed s.shape_j (get_or v s.shape_j []) numbers_room)

      -- y is the row that the factors are made of
      pub result_is : (code scfq : List Float) (y : List ℤ) (scale : Float) (j : ℕ) → j ≡ joint_index s.shape_j s.gind n
          → y ≡ signed_for t s.shape_j → scale ≡ scale_of s.g_gain_i_shape_j y → scfq ≡ list_of 16 (factor_of code y scale)
          → ◌≡◌ {A = SnsStage2Result} (record { shape_j = s.shape_j; gind = s.gind; numbers = n; index_joint_j = j; scfq = scfq }) (result_of t code)
      unfolding result_of selected_of
      result_is code scfq y scale j h w k i = rw (h, i, k, w, g, row_is, e)

pub stage2_is : (residual code t : List Float) (r : SnsStage2Result) → t ≡ target_of residual → r ≡ result_of t code → r ≡ stage2_of residual code
unfolding stage2_of
stage2_is residual code t r e h = h ∙ ap (λ (x : List Float). result_of x code) e
