-- No distortion is NaN: a finite target less a gain times a place of at most 1, squared, and sums of values without a minus sign. So the scan finds the first least.
-- Assumes nothing.
use mathlib.Core.Path.{◌≡◌, sym, subst}
use mathlib.Core.List.{List, []}
use Prim.Native.Nat.{ℕ, suc, ◌-◌, ◌<◌}
use native.Mathlib.Nat.{le_refl, le_trans, le_of_eq}
use native.Mathlib.Omega.{arith}
use lib.Dec.{T, lit<, lit≤}
use lib.IntN.{pos}
use lib.ListN.{get_or}
use lib.Ieee.{Float, nan, binary32, of_int, sub, mul, div}
use Rattle.float_laws.specs.Bounded.{AllFinite, Bounded}
use Rattle.float_laws.specs.Kind.{plain}
use Rattle.float_laws.specs.Least.{FirstLeast}
use Rattle.float_laws.specs.Scan.{least_to}
use Rattle.float_laws.specs.Size.{Within}
use Rattle.float_laws.proofs.Least.{first_unique}
use Rattle.float_laws.proofs.NoNan.{square_plain, sub_no_nan, finite_no_nan, plain_no_nan}
use Rattle.float_laws.proofs.Running.{sum_plain}
use Rattle.float_laws.proofs.Scan.{least_first}
use Rattle.float_laws.proofs.Size.{within_finite, within_up, mul_within, whole_exact}
use Rattle.float_laws.specs.Literal.{squared}
use Rattle.list_laws.proofs.ListOf.{get_or_list_of}
use Rattle.roots.proofs.Unit.{unit}
use Rattle.sns_tables.proofs.Sizes.{gain_within}
use Rattle.pulse_length.specs.Length.{squared_length, length_of}
use Rattle.pulse_length.proofs.Squares.{square_under}
use Rattle.candidates.specs.Candidate.{candidate_of, distortion_of}
use Rattle.candidates.specs.Scan.{choices, choice_at, gain_of, distortion_at, winner_of}
use Rattle.candidates.specs.Claims.{Units, NoDistortionNan, WinnerFirst, WinnerOnly}
use Rattle.candidates.proofs.Choices.{choices_are, choice_shape, choice_gain}

pub units : Units
unfolding candidate_of
units y s n h =
    subst (λ (x : Float). Within x 1 1) (sym (get_or_list_of 16 (λ n. div binary32 (of_int binary32 (get_or y n (pos 0))) (length_of y)) nan n h))
    (unit (squared_length y) (get_or y n (pos 0)) s.above s.below (square_under y n))

-- ---- distortions
gain_six : (i : ℕ) → i < choices → Within (gain_of i) 6 1
unfolding gain_of
gain_six i h = within_up (gain_of i) 21014 4096 6 1 (lit< tt) (lit≤ tt) (gain_within (choice_at i).shape (choice_at i).gain (choice_shape i h) (choice_gain i h))

term_plain : (t q : List Float) (g : Float) → AllFinite 16 t → Bounded 16 1 q → Within g 6 1 → (n : ℕ) → n < 16
    → T (plain (squared (sub binary32 (get_or t n nan) (mul binary32 g (get_or q n nan)))))
term_plain t q g F U G n l =
    square_plain binary32 (sub binary32 (get_or t n nan) (mul binary32 g (get_or q n nan)))
    (sub_no_nan binary32 (get_or t n nan) (mul binary32 g (get_or q n nan)) (finite_no_nan (get_or t n nan) (F n l))
    (within_finite (mul binary32 g (get_or q n nan)) 6 1
    (mul_within binary32 g (get_or q n nan) 6 1 1 1 6 1 (lit< tt) (lit< tt) (lit< tt) (whole_exact binary32 6 (lit≤ tt)) (lit≤ tt) G (U n l))))

pub no_distortion_nan : NoDistortionNan
unfolding distortion_at distortion_of
no_distortion_nan t q C i h =
    let g = gain_of i in
    let p = get_or q (choice_at i).shape [] in
    plain_no_nan (distortion_of t p g)
    (sum_plain (λ n. squared (sub binary32 (get_or t n nan) (mul binary32 g (get_or p n nan)))) 16
    (term_plain t p g C.target (C.units (choice_at i).shape (choice_shape i h)) (gain_six i h)) 16 (le_refl 16))

-- ---- the winner
back : (n : ℕ) → 0 < n → suc (n - 1) ≡ n
back n h = omega arith

some_choice : 0 < choices
some_choice = le_trans (lit< tt) (le_of_eq (sym choices_are))

pub winner_first : WinnerFirst
unfolding winner_of
winner_first t q C =
    subst (λ (n : ℕ). FirstLeast (distortion_at t q) n (least_to (distortion_at t q) (choices - 1))) (back choices some_choice)
    (least_first (distortion_at t q) (choices - 1) (λ i l. no_distortion_nan t q C i (subst (λ (n : ℕ). i < n) (back choices some_choice) l)))

pub winner_only : WinnerOnly
winner_only t q C i h = first_unique (distortion_at t q) choices i (winner_of t q) h (winner_first t q C)
