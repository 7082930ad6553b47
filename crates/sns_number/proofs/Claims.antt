-- The claims of specs/Claims.antt. Assumes nothing.
use mathlib.Core.Path.{◌≡◌, refl, sym, ◌∙◌}
use borrow.Author.Tests.{not-false, leb-false, eqb-true}
use lib.ListN.{length}
use Rattle.std.specs.Prelude.{Ok, Err}
use Rattle.numbering.specs.Numbering.{lead_sign, index_of, vector_at}
use Rattle.numbering.proofs.Claims.{claim}
use Rattle.numbering.specs.declared.Numbered.{Numbered}
use Rattle.refusals.specs.Answers.{Answer, Done, answer_of, giving}
use Rattle.sns_number.specs.Unpack.{unpack_questions, unpack_answer}
use Rattle.sns_number.specs.Pack.{pack_questions, numbered_of}
use Rattle.sns_number.specs.Claims.{UnpackPinned, PackPinned, UnpackKeeps, UnpackTaken, UnpackTakes, PackTakes, UnpackThenPack, PackThenUnpack}
use Rattle.refusals.proofs.Answers.{done}
use Rattle.sns_number.proofs.Pairs.{small}
use Rattle.sns_number.proofs.UnpackAnswers as unpack
use Rattle.sns_number.proofs.PackAnswers as pack
use Rattle.refusals.proofs.Pinned.{pinned, keeps}

pub unpack_pinned : UnpackPinned
unpack_pinned n k s i old r r' new new' = pinned (unpack_answer n k s i (length old)) (vector_at n k s i) old

pub pack_pinned : PackPinned
pack_pinned n k v r r' p p' = p ∙ sym p'

pub unpack_keeps : UnpackKeeps
unpack_keeps n k s i old = keeps (unpack_answer n k s i (length old)) (vector_at n k s i) old

pub unpack_takes : UnpackTakes
unfolding unpack_questions
unpack_takes n k s i len = (there, back)
  where
    there : UnpackTaken n k s i len → answer_of (unpack_questions n k s i len) ≡ Done
    there t = sym (unpack.taken n k s i len t.pair t.long t.sign_below t.index_below)

    back : answer_of (unpack_questions n k s i len) ≡ Done → UnpackTaken n k s i len
    back e =
        let a = done _ 0 _ _ e in
        let b = done _ 0 _ _ a.1 in
        let d = done _ 0 _ _ b.1 in
        let f = done _ 0 _ _ d.1 in
        record {
          pair = not-false _ a.0;
          long = eqb-true len n (not-false _ b.0);
          sign_below = leb-false 2 s d.0;
          index_below = leb-false _ i f.0;
        }

-- a packed index comes from a call that is done
at_done : (a : Answer) (m m' : Numbered) → giving a m ≡ Ok m' → a ≡ Done
at_done (Ok u) m m' e = refl
at_done (Err refused) m m' e = cc

pub pack_takes : PackTakes
unfolding pack_questions
pack_takes n k i s v e =
    let a = done _ 0 _ _ (at_done _ (numbered_of v) (record { index = i; sign = s }) e) in
    let b = done _ 0 _ _ a.1 in
    let d = done _ 0 _ _ b.1 in
    (not-false _ a.0, record { places = eqb-true (length v) n (not-false _ b.0); pulses = eqb-true _ k (not-false _ d.0) })

pub unpack_pack : UnpackThenPack
unpack_pack n k s i len e =
    let t = (unpack_takes n k s i len).1 e in
    let o = claim n k (small n k t.pair).some in
    let p = o.unpacked s i t.sign_below t.index_below in
    let q = o.unpack_pack s i t.sign_below t.index_below in
    sym (pack.taken n k (vector_at n k s i) t.pair p.places p.pulses) ∙ rw (q.0, q.1)

pub pack_unpack : PackThenUnpack
pack_unpack n k v p q =
    let o = claim n k (small n k p).some in
    let b = o.packed v q in (
      index_of v,
      lead_sign v,
      sym (pack.taken n k v p q.places q.pulses),
      sym (unpack.taken n k (lead_sign v) (index_of v) (length v) p q.places b.0 b.1),
      o.pack_unpack v q,
    )
