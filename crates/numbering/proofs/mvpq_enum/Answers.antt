-- The state is the number of the vector from the place on.
use Rattle.std.proofs.Common.{rules, ℕ, ◌≡◌, ◌<◌, ◌≤◌, ◌+◌, ◌-◌, ◌*◌, ◌∙◌, sym, ap, arith, pos, length, get_or, w32, to_z, of_z}
use native.Mathlib.Nat.{sub-zero}
use lib.Seq.{drop-length}
use mathlib.Core.List.{reverse}
use mir.Val.{SFits}
use mir.Facts.{to_z-of_z}
use Rattle.std.proofs.lemmas.List.{length_push, length-reverse}
use Rattle.std.proofs.lemmas.Iterator.Adapters.{YieldsList-from_rev_slice}
use Rattle.std.proofs.lemmas.Iterator.Consumers.{YieldsList-from_copied, YieldsList-from_enumerate, YieldsList-turn, YieldsList-end}
use Rattle.mpvq_offsets.specs.Offsets.{offset_of}
use Rattle.numbering.specs.Numbering.{pulses_of, lead_sign, index_of}
use Rattle.numbering.proofs.Bijection.{pushed_most}
use Rattle.numbering.proofs.Suffix.{fewer, counted, all_counted, more_index, more_sign, more_pulses, more_fits}
use Rattle.numbering.proofs.mvpq_enum.Goals as goal
use Rattle.numbering.proofs.mvpq_enum.Goals.{In-Some}

pub loop-n-init : goal.loop-n-init
unfolding index_of lead_sign pulses_of
loop-n-init c =
    let e = drop-length c.args.v.now in
    rw sub-zero (sym (ap index_of e), sym (ap lead_sign e), sym (ap pulses_of e))

-- what a turn takes: the places stand the other way round
turn : (c : In-Some) → let places = reverse c.args.v.now in
    (length c.loop-n.yielded < length places) × (c.in-Some.n ≡ length c.loop-n.yielded) × (c.in-Some.val ≡ get_or places (length c.loop-n.yielded) (pos 0))
turn c =
    let y = YieldsList-from_enumerate (YieldsList-from_copied (YieldsList-from_rev_slice c.args.v.now cc)) cc in
    counted _ _ _ _ (YieldsList-turn y c.loop-n.yielded _ c.loop-n.yielded_by _ _ (c.in-Some.n, c.in-Some.val) c.in-Some.is c.next.ensures.steps)

below : (c : In-Some) → length c.loop-n.yielded < length c.args.v.now
below c = omega (arith, (turn c).0, length-reverse c.args.v.now)

-- both signs of the number so far, and the next offset, fit a word
fits : (c : In-Some) → offset_of c.in-Some.n c.loop-n.k_val_acc + (2 * c.loop-n.index + c.loop-n.next_sign) < 4294967296
fits c =
    let l = c.loop-n in
    rw (turn c).1 (more_fits c.args.v.now (length l.yielded) l.index l.next_sign l.k_val_acc (below c) l.invariant.0 l.invariant.1 l.invariant.2 c.requires.0 c.requires.1)

pub enc_push_sign-pushed-requires : goal.enc_push_sign-pushed-requires
enc_push_sign-pushed-requires c = omega (arith, fits (goal.at.enc_push_sign-pushed-requires c).In-Some)

few : (c : In-Some) → c.loop-n.k_val_acc ≤ 10
few c = omega (arith, c.loop-n.invariant.2, fewer c.args.v.now (length c.args.v.now - length c.loop-n.yielded), c.requires.1)

pub mpvq_offset-requires : goal.mpvq_offset-requires
mpvq_offset-requires c =
    let s = (goal.at.mpvq_offset-requires c).In-Some in
    (omega (arith, below s, (turn s).1, c.requires.0), omega (arith, few s))

pub overflow_add-index : goal.overflow_add-index
overflow_add-index c =
    record {
      fits = omega (
        arith,
        c.enc_push_sign-pushed.ensures.0,
        pushed_most (to_z w32 (of_z w32 c.in-Some.val)) c.loop-n.index c.loop-n.next_sign,
        c.mpvq_offset.ensures,
        fits (goal.at.overflow_add-index c).In-Some,
      );
    }

pub overflow_add-k_val_acc : goal.overflow_add-k_val_acc
overflow_add-k_val_acc c = record { fits = omega (arith, few (goal.at.overflow_add-k_val_acc c).In-Some, c.magnitude-k_val_acc.ensures.small) }

pub loop-n-preserved : goal.loop-n-preserved
loop-n-preserved c =
    let v = c.args.v.now in
    let l = c.loop-n in
    let s = (goal.at.loop-n-preserved c).In-Some in
    let p = c.enc_push_sign-pushed.ensures in
    let inv = l.invariant in
    let h = below s in
    let f : SFits w32 c.in-Some.val = search rules in
    let x = to_z-of_z f ∙ (turn s).2 in
    rw (length_push l.yielded (c.in-Some.n, c.in-Some.val)) (
      omega (
        arith,
        p.0,
        c.mpvq_offset.ensures ∙ ap (λ (n : ℕ). offset_of n l.k_val_acc) (turn s).1,
        more_index v (length l.yielded) l.index l.next_sign l.k_val_acc h inv.0 inv.1 inv.2 _ x,
      ),
      p.1 ∙ more_sign v (length l.yielded) l.index l.next_sign l.k_val_acc h inv.0 inv.1 inv.2 _ x,
      ap (λ (d : ℕ). l.k_val_acc + d) c.magnitude-k_val_acc.ensures.size
          ∙ more_pulses v (length l.yielded) l.index l.next_sign l.k_val_acc h inv.0 inv.1 inv.2 _ x,
    )

pub returns : goal.returns
returns c =
    let v = c.args.v.now in
    let y = YieldsList-from_enumerate (YieldsList-from_copied (YieldsList-from_rev_slice v cc)) cc in
    let z = all_counted v _ (YieldsList-end y c.loop-n.yielded _ c.loop-n.yielded_by _ _ c.in-None.is c.next.ensures.steps).1 in
    let inv = rw z at c.loop-n.invariant in
    (inv.0, inv.1)
