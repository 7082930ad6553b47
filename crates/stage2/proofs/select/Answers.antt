-- The winner is one of the choices, and its parts are those of the definition.
use mathlib.Core.Path.{◌≡◌}
use mathlib.Core.List.{List}
use Prim.Native.Nat.{ℕ, ◌<◌}
use native.Mathlib.Omega.{arith}
use lib.Ieee.{Float}
use Rattle.candidates.specs.Scan.{choices, winner_of}
use Rattle.candidates.proofs.Choices.{choices_are, winner_under}
use Rattle.stage2.proofs.Steps.{four_rows, candidates_are, selected_is}
use Rattle.stage2.proofs.select.Goals as goal

-- the winner is one of the choices
in_scan : (t : List Float) (q : List (List Float)) (i : ℕ) → i ≡ winner_of t q → i < choices
in_scan t q i e = rw e (winner_under t q)

pub normalize_candidates-xq-requires : goal.normalize_candidates-xq-requires
normalize_candidates-xq-requires c = four_rows _ _ c.requires

pub choice_at-c-requires : goal.choice_at-c-requires
choice_at-c-requires c = in_scan _ _ _ c.winner-best.ensures

pub offset_bounds-gains-best : goal.offset_bounds-gains-best
offset_bounds-gains-best c = record { fits = omega (arith, in_scan _ _ _ c.winner-best.ensures, choices_are) }

pub bounds-gains-best : goal.bounds-gains-best
bounds-gains-best c = omega (arith, in_scan _ _ _ c.winner-best.ensures, choices_are)

pub returns : goal.returns
returns c = selected_is _ _ _ _ _ (candidates_are _ _ _ c.requires c.normalize_candidates-xq.ensures) c.scanned_gains-gains.ensures c.winner-best.ensures c.choice_at-c.ensures
