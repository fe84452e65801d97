-- The words that one call leaves, row by row: each row's stretch is laid out at its turn and stays.
use mathlib.Core.List.{List, ◌++◌, append_assoc}
use mathlib.Core.Logic.{⊎_elim}
use mathlib.Core.Path.{◌≡◌, sym, ◌∙◌}
use Prim.Native.Nat.{ℕ, zero, suc, ◌<◌}
use native.Mathlib.Nat.{eq-or-lt_of_le, le_of_suc-le-suc}
use native.Mathlib.Omega.{arith}
use lib.ListN.{length, take, drop}
use lib.Seq.{take_at, drop_at}
use Rattle.rules.specs.Rows.{rows_of, numbers_at}
use Rattle.rules.specs.Stretches.{width, offset}
use Rattle.rules.specs.declared.numbers.Numbers.{Numbers}
use Rattle.spans.specs.Layout.{ring_of, Laid}
use Rattle.soundness.specs.Record.{held_at, stretch_at}
use Rattle.monitor.specs.Event.{Moment, Ring, ring_now, spans_now, words_done, store_with, record_after, store_after}
use Rattle.spans.proofs.RoundLaws.{places_double}
use Rattle.spans.proofs.UpdateLaws.{first_small, length_ring, ring_read}
use Rattle.monitor.proofs.EventLaws.{Room, length_done}
use Rattle.monitor.proofs.RisingLaws.{entry_set}

-- The words after the rows below n, where the spans of each of them have room in its stretch.
module _ (table : List ℕ) (rings : ℕ → Ring) where
  done_at : (n : ℕ) (rest : List ℕ) (r : ℕ)
      → r < n
      → Room table rings n
      → take (width (numbers_at table r)) (drop (offset table r) (words_done table rings n ++ rest)) ≡ ring_of (width (numbers_at table r)) (rings r).first (rings r).spans
  unfolding words_done
  done_at zero rest r done room = absurd (omega arith)
  done_at (suc n) rest r done room =
      let words = ring_of (width (numbers_at table n)) (rings n).first (rings n).spans in
      let before : Room table rings n = λ r below. room r (omega arith) in
      rw append_assoc
      (⊎_elim
      (λ e.
      rw (
        e,
        drop_at (words_done table rings n) (words ++ rest) (offset table n) (length_done table rings n before),
        take_at words rest (width (numbers_at table n)) (length_ring (width (numbers_at table n)) (rings n).first (rings n).spans (omega (arith, (room n (omega arith)).few))),
      ))
      (λ below. done_at n (words ++ rest) r below before)
      (eq-or-lt_of_le (le_of_suc-le-suc done)))

  -- The stretch of each row that was done lays out its spans.
  stretch_set : (store : List ℕ) (n r : ℕ)
      → r < n
      → Room table rings n
      → stretch_at table (store_with table store rings n) r ≡ ring_of (width (numbers_at table r)) (rings r).first (rings r).spans
  unfolding store_with stretch_at
  stretch_set store n r done room = done_at n (drop (offset table n) store) r done room

-- After all rows, in the record and the store that are left.
module _ (m : Moment) (r : ℕ) (done : r < rows_of m.table) (sized : r < length m.found.counts) (placed : r < length m.found.firsts)
    (room : Room m.table (ring_now m) (rows_of m.table)) where
  abbrev n : Numbers
  n = numbers_at m.table r

  count_is : (held_at (record_after m) r).count ≡ length (spans_now m r)
  unfolding record_after
  count_is = entry_set (λ row. length (ring_now m row).spans) m.found.counts (rows_of m.table) r done sized

  first_is : (held_at (record_after m) r).first ≡ (ring_now m r).first
  unfolding record_after
  first_is = entry_set (λ row. (ring_now m row).first) m.found.firsts (rows_of m.table) r done placed

  pub row_laid : Laid (width n) (stretch_at m.table (store_after m) r) (held_at (record_after m) r) (spans_now m r)
  row_laid =
      let fits = room r done in
      let words = stretch_set m.table (ring_now m) m.store (rows_of m.table) r done room in
      record {
        written =
            rw (first_is, words)
            (ring_read (width n) (ring_now m r).first (spans_now m r) (omega (arith, fits.few))
            (omega (arith, first_small fits.placed fits.few)));
        counted = count_is;
        unplaced = λ none. first_is ∙ fits.placed.unplaced (sym count_is ∙ none);
        inside = λ some. rw (first_is, places_double) (fits.placed.inside (rw count_is at some));
      }
