-- Each arm reads the gains of its shape.
use mathlib.Core.Path.{◌≡◌, subst}
use mathlib.Core.List.{List, []}
use Prim.Native.Nat.{ℕ, ◌<◌}
use native.Mathlib.Omega.{arith}
use lib.ListN.{get_or}
use lib.Ieee.{Float, nan}
use Rattle.sns_tables.specs.Gains.{gain_rows, gains_of, gain_at}
use Rattle.shapes.proofs.adj_gain.Goals as goal

-- the arm of shape k
below : (shape k gain : ℕ) → shape ≡ k → gain < gains_of shape → gain < gains_of k
below shape k gain e h = subst (λ (s : ℕ). gain < gains_of s) e h

arm : (shape k gain : ℕ) (row : List Float) → shape ≡ k → row ≡ get_or gain_rows k [] → get_or row gain nan ≡ gain_at shape gain
arm shape k gain row e p = rw (e, p)

pub offset_bounds-sns_vq_reg_adj_gains-gain : goal.offset_bounds-sns_vq_reg_adj_gains-gain
unfolding gain_rows
offset_bounds-sns_vq_reg_adj_gains-gain c = record { fits = omega (arith, below c.args.shape 0 _ (omega arith) c.requires.1) }

pub bounds-sns_vq_reg_adj_gains-gain : goal.bounds-sns_vq_reg_adj_gains-gain
unfolding gain_rows
bounds-sns_vq_reg_adj_gains-gain c = below c.args.shape 0 _ (omega arith) c.requires.1

pub offset_bounds-sns_vq_reg_lf_adj_gains-gain : goal.offset_bounds-sns_vq_reg_lf_adj_gains-gain
unfolding gain_rows
offset_bounds-sns_vq_reg_lf_adj_gains-gain c = record { fits = omega (arith, below c.args.shape 1 _ (omega arith) c.requires.1) }

pub bounds-sns_vq_reg_lf_adj_gains-gain : goal.bounds-sns_vq_reg_lf_adj_gains-gain
unfolding gain_rows
bounds-sns_vq_reg_lf_adj_gains-gain c = below c.args.shape 1 _ (omega arith) c.requires.1

pub offset_bounds-sns_vq_near_adj_gains-gain : goal.offset_bounds-sns_vq_near_adj_gains-gain
unfolding gain_rows
offset_bounds-sns_vq_near_adj_gains-gain c = record { fits = omega (arith, below c.args.shape 2 _ (omega arith) c.requires.1) }

pub bounds-sns_vq_near_adj_gains-gain : goal.bounds-sns_vq_near_adj_gains-gain
unfolding gain_rows
bounds-sns_vq_near_adj_gains-gain c = below c.args.shape 2 _ (omega arith) c.requires.1

pub offset_bounds-sns_vq_far_adj_gains-gain : goal.offset_bounds-sns_vq_far_adj_gains-gain
unfolding gain_rows
offset_bounds-sns_vq_far_adj_gains-gain c = record { fits = omega (arith, below c.args.shape 3 _ (omega arith) c.requires.1) }

pub bounds-sns_vq_far_adj_gains-gain : goal.bounds-sns_vq_far_adj_gains-gain
unfolding gain_rows
bounds-sns_vq_far_adj_gains-gain c = below c.args.shape 3 _ (omega arith) c.requires.1

pub returns-in-0 : goal.returns-in-0
returns-in-0 c = arm _ 0 _ _ (omega arith) c.sns_vq_reg_adj_gains.ensures

pub returns-in-1 : goal.returns-in-1
returns-in-1 c = arm _ 1 _ _ (omega arith) c.sns_vq_reg_lf_adj_gains.ensures

pub returns-in-2 : goal.returns-in-2
returns-in-2 c = arm _ 2 _ _ (omega arith) c.sns_vq_near_adj_gains.ensures

pub returns-in_default : goal.returns-in_default
returns-in_default c = arm _ 3 _ _ (omega arith) c.sns_vq_far_adj_gains.ensures
