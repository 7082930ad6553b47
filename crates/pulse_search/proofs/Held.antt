-- The record belongs to the pulses placed, after every pulse: whole numbers are added exactly, and (w + 1)² = w² + 2w + 1. Assumes nothing.
use mathlib.Core.Path.{◌≡◌, refl, sym, ap, ◌∙◌, subst}
use mathlib.Core.List.{List}
use Prim.Native.Nat.{ℕ, zero, suc, ◌+◌, ◌*◌, ◌^◌, ◌≤◌, ◌<◌}
use native.Mathlib.Nat.{le_trans, le_of_eq, mul-le-mul}
use native.Mathlib.Omega.{arith}
use lib.Dec.{lit≤}
use lib.IntN.{pos}
use lib.ListN.{length, get_or, set}
use lib.Ieee.{Float, nan, binary32, prec, of_bits, of_int, add, mul}
use Rattle.float_laws.proofs.Size.{whole_exact}
use Rattle.float_laws.proofs.Whole.{whole_add, whole_mul, whole_le}
use Rattle.float_laws.specs.Literal.{one, two}
use Rattle.pulse_search.specs.Pulse.{pair_at, best_to, Search, start, one_pulse, more, total_to, square_to}
use Rattle.float_laws.specs.Whole.{amount}
use Rattle.pulse_search.specs.Claims.{Belongs, TriedBelong, Held, RecordHeld, pulse_place, grown, ordered_sum, RecordOrdered}
use Rattle.pulse_search.proofs.Sums.{place_le, total_one, square_more, square_low, square_high}
use Rattle.pulse_search.proofs.Laws.{best_le, more_suc, more_zero, more_length, more_total}

-- ---- the numbers that the energy grows by
one_is : one ≡ of_int binary32 (pos 1)
unfolding of_bits of_int
one_is = refl

two_is : two ≡ of_int binary32 (pos 2)
unfolding of_bits of_int
two_is = refl

pub far : (n : ℕ) → n ≤ 65536 → n ≤ 2 ^ prec binary32
far n h = le_trans h (lit≤ tt)

-- the squares of at most 255 pulses
pub squares_few : (y : List ℕ) (n : ℕ) → total_to y n ≤ 255 → square_to y n ≤ 65025
squares_few y n h = le_trans (square_high y n) (mul-le-mul h h)

-- an energy that is the sum of the squares is all that is asked
pub belongs_of : (s : Search) → total_to s.pulses 16 ≤ 255 → s.pair.energy ≡ of_int binary32 (pos (square_to s.pulses 16)) → Belongs s
belongs_of s h e =
    let y = s.pulses in
    record {
      squares = e;
      exactly = whole_exact binary32 (square_to y 16) (far (square_to y 16) (le_trans (squares_few y 16 h) (lit≤ tt)));
      least = λ l. rw (e, one_is) (whole_le binary32 1 (square_to y 16) (le_trans l (square_low y 16)));
    }

-- ---- one pulse more at place n
grow : (q w : ℕ) → q ≤ 65025 → w ≤ 255 → add binary32 (add binary32 (of_int binary32 (pos q)) (mul binary32 two (of_int binary32 (pos w)))) one ≡ of_int binary32 (pos (q + (2 * w + 1)))
grow q w h k =
    rw (two_is, one_is)
    (ap (λ (x : Float). add binary32 (add binary32 (of_int binary32 (pos q)) x) (of_int binary32 (pos 1))) (whole_mul binary32 2 w (lit≤ tt) (far w (omega arith)))
    ∙ ap (λ (x : Float). add binary32 x (of_int binary32 (pos 1))) (whole_add binary32 q (2 * w) (far q (omega arith)) (far (2 * w) (omega arith)))
    ∙ whole_add binary32 (q + 2 * w) 1 (far (q + 2 * w) (omega arith)) (lit≤ tt)
    ∙ ap (λ (n : ℕ). of_int binary32 (pos n)) (joined q w))
  where
    joined : (q w : ℕ) → q + 2 * w + 1 ≡ q + (2 * w + 1)
    joined q w = omega arith

pub tried_belong : (a : List Float) (s : Search) → length s.pulses ≡ 16 → total_to s.pulses 16 + 1 ≤ 255 → Belongs s → TriedBelong a s
unfolding pair_at
tried_belong a s l h b n i =
    let y = s.pulses in
    let w = get_or y n 0 in
    let j : n < length y = subst (λ (k : ℕ). n < k) (sym l) i in
    let t : total_to y 16 ≤ 255 = omega arith in
    belongs_of (start (set y n (w + 1)) (pair_at a y s.pair n)) (le_trans (le_of_eq (total_one y n 16 i j)) h)
    (ap (λ (x : Float). add binary32 (add binary32 x (mul binary32 two (amount y n))) one) b.squares
    ∙ grow (square_to y 16) w (squares_few y 16 t) (le_trans (place_le y n 16 i) t)
    ∙ ap (λ (k : ℕ). of_int binary32 (pos k)) (sym (square_more y n 16 i j)))

-- ---- and so after every pulse
module _ (a : List Float) (last : ℕ) (m : last < 16) where
  one_belongs : (s : Search) → length s.pulses ≡ 16 → total_to s.pulses 16 + 1 ≤ 255 → Belongs s → Belongs (one_pulse a last s)
  unfolding one_pulse
  one_belongs s l h b = tried_belong a s l h b (best_to a s.pulses s.pair last) (under (best_le a s.pulses s.pair last) m)
    where
      under : {i j : ℕ} → i ≤ j → j < 16 → i < 16
      under h k = omega arith

  more_belongs : (i : ℕ) (s : Search) → length s.pulses ≡ 16 → total_to s.pulses 16 + i ≤ 255 → Belongs s → Belongs (more a last i s)
  more_belongs zero s l h b = rw more_zero b
  more_belongs (suc i) s l h b =
      rw more_suc
      (one_belongs (more a last i s) (more_length a last i s ∙ l) (omega (arith, more_total a last 16 m i s (le_of_eq (sym l)))) (more_belongs i s l (omega arith) b))

  more_tried : (i : ℕ) (s : Search) → length s.pulses ≡ 16 → total_to s.pulses 16 + suc i ≤ 255 → Belongs s → TriedBelong a (more a last i s)
  more_tried i s l h b =
      tried_belong a (more a last i s) (more_length a last i s ∙ l) (omega (arith, more_total a last 16 m i s (le_of_eq (sym l)))) (more_belongs i s l (omega arith) b)

  held : (k : ℕ) (s : Search) → length s.pulses ≡ 16 → total_to s.pulses 16 + k ≤ 255 → Belongs s → Held a last k s
  held k s l h b = record {
    placed = λ i j. more_belongs i s l (omega arith) b;
    tried = λ i j. more_tried i s l (omega arith) b;
    compared = λ i j n u. (more_tried i s l (omega arith) b n u).least (one_stands (more a last i s).pulses n u (subst (λ (q : ℕ). n < q) (sym (more_length a last i s ∙ l)) u));
  }
    where
      one_stands : (y : List ℕ) (n : ℕ) → n < 16 → n < length y → 1 ≤ total_to (set y n (get_or y n 0 + 1)) 16
      one_stands y n u v = omega (arith, total_one y n 16 u v)

pub record_held : RecordHeld
record_held a last k s m l h b = held a last m k s l h b

-- ---- the correlation
pub record_ordered : RecordOrdered
unfolding more one_pulse pair_at grown ordered_sum
record_ordered a last zero s = record { pulses = refl; correlation = refl }
record_ordered a last (suc k) s =
    let p = pulse_place a last s k in
    let o = record_ordered a last k s in
    record {
      pulses = ap (λ (y : List ℕ). set y p (get_or y p 0 + 1)) o.pulses;
      correlation = ap (λ (c : Float). add binary32 c (get_or a p nan)) o.correlation;
    }
