-- A call and a start look only at the words of the need. Row by row: each stretch lies within the need, so the spans found are the same, and with
-- them the test of soundness and what the event leaves.
use mathlib.Core.Bool.{Bool, true, false, cond}
use mathlib.Core.List.{List}
use mathlib.Core.Logic.{⊎_elim}
use mathlib.Core.Option.{Option, none, some}
use mathlib.Core.Path.{◌≡◌, refl, sym, ap, ◌∙◌}
use Prim.Native.Nat.{ℕ, zero, suc, ◌+◌, ◌≤◌, ◌<◌}
use native.Mathlib.Omega.{arith}
use borrow.Author.Tests.{le-leb}
use lib.Dec.{ltb}
use lib.ListN.{length, take, drop, replicate, length-replicate}
use lib.Seq.{length-take-le, take-take, take-add, take_at, drop_at}
use Rattle.refusals.specs.Refusals.{Refused}
use Rattle.meaning.specs.Heartbeat.{heartbeat?}
use Rattle.rules.specs.Rows.{rows_of, numbers_at}
use Rattle.rules.specs.Stretches.{width, offset, need_of}
use Rattle.rules.specs.Table.{CheckReply, passed, refused_by}
use Rattle.rules.proofs.StretchesLaws.{stretch-before}
use Rattle.soundness.specs.declared.record.Record.{Record}
use Rattle.soundness.specs.Record.{stretch_at, clock_of}
use Rattle.soundness.specs.Soundness.{every, sound_row?, sound?}
use Rattle.meaning.proofs.Truths.{by_test}
use Rattle.row_list.specs.RowList.{list_passes}
use Rattle.dead_rows.specs.DeadRows.{lowest_dead}
use Rattle.soundness.specs.Ready.{ready_of}
use Rattle.monitor.specs.Start.{start_of}
use Rattle.monitor.specs.Event.{Moment, spans_after, first_after, truth_of, truths_after, Ring, ring_judged, ring_clipped, ring_now, entries_with, words_done, record_after}
use Rattle.soundness.specs.Setup.{Setup}
use Rattle.monitor.specs.Step.{Call, time_of, mask_of, refusal_of, moment_of, step_of}
use Rattle.monitor.proofs.EventLaws.{spans-same, truth-same, Room, words-done, words_left}
use Rattle.promises.specs.SpareWords.{SameNeeded, Alike, BegunAlike, SpareWords}
use Rattle.promises.proofs.TableRefusals.{room_of, table-refuses, table-passes, table_decided, start-refuses, start-passes, start_decided}
use Rattle.promises.proofs.SoundAfter.{room_after}
use Rattle.promises.proofs.Refusing.{Accepted, accepted_of}

-- A stretch is a part of the words of the need.
stretch-from : (table store : List ℕ) (row : ℕ)
    → row < rows_of table
    → need_of table ≤ length store
    → stretch_at table store row ≡ drop (offset table row) (take (offset table row + width (numbers_at table row)) (take (need_of table) store))
unfolding stretch_at
stretch-from table store row lower room =
    let o = offset table row in
    let w = width (numbers_at table row) in
    let within : o + w ≤ need_of table = stretch-before table row (rows_of table) lower in
    rw (take-take (o + w) (need_of table) store within, take-add o w store)
    (sym (drop_at (take o store) (take w (drop o store)) o (length-take-le o store (omega arith))))

every_same : (n : ℕ) (test other : ℕ → Bool) → ((row : ℕ) → row < n → test row ≡ other row) → every n test ≡ every n other
unfolding every
every_same zero test other same = refl
every_same (suc n) test other same = rw (every_same n test other (λ row lower. same row (omega arith)), same n (omega arith))

-- The tests before a call.
module _ (table store other : List ℕ) (alike : SameNeeded table store other) where
  same_stretch : (row : ℕ) → row < rows_of table → stretch_at table store row ≡ stretch_at table other row
  same_stretch row lower =
      stretch-from table store row lower alike.room
      ∙ ap (λ (words : List ℕ). drop (offset table row) (take (offset table row + width (numbers_at table row)) words)) alike.words
      ∙ sym (stretch-from table other row lower alike.other-room)

  same_sound : (found : Record) → sound? table store found ≡ sound? table other found
  unfolding sound? sound_row?
  same_sound found =
      rw (every_same (rows_of table) (sound_row? table store found) (sound_row? table other found) (λ row lower. rw (same_stretch row lower)))

-- What passes for table and list passes with either store.
same_ready : (setup : Setup) (store other : List ℕ) → SameNeeded setup.table store other → ready_of setup (length store) ≡ ready_of setup (length other)
unfolding ready_of
same_ready setup store other alike =
    ⊎_elim
    (λ right.
    let passes = table-passes setup.table right in
    by_test (list_passes setup.list (rows_of setup.table))
    (λ listed.
    by_test (ltb (lowest_dead setup.table setup.list (rows_of setup.table)) (rows_of setup.table))
    (λ dead. rw (passes, listed, dead))
    (λ reached.
    rw (
      passes,
      listed,
      reached,
      le-leb (need_of setup.table) (length store) alike.room,
      le-leb (need_of setup.table) (length other) alike.other-room,
    )))
    (λ unlisted. rw (passes, unlisted)))
    (λ wrong. rw (table-refuses setup.table wrong.0 wrong.1))
    (table_decided setup.table)

module _ (setup : Setup) (store other : List ℕ) (found : Record) (c : Call) (alike : SameNeeded setup.table store other) where
  same_refusal : refusal_of setup store found c ≡ refusal_of setup other found c
  unfolding refusal_of
  same_refusal = rw (same_ready setup store other alike, same_sound setup.table store other alike found)

  -- The call at the one store and at the other.
  abbrev time : ℕ
  time = time_of (clock_of found) c

  abbrev m : Moment
  m = moment_of setup store found c

  abbrev m' : Moment
  m' = moment_of setup other found c

  same_spans : (row : ℕ) (truths : List ℕ) → row < rows_of setup.table → spans_after m row truths ≡ spans_after m' row truths
  same_spans row truths lower =
      spans-same setup.table other store found time (mask_of c) row truths (same_stretch setup.table store other alike row lower)

  same_first : (row : ℕ) (truths : List ℕ) → row < rows_of setup.table → first_after m row truths ≡ first_after m' row truths
  unfolding first_after
  same_first row truths lower = rw (same_stretch setup.table store other alike row lower)

  same_truth : (row : ℕ) (truths : List ℕ) → row < rows_of setup.table → truth_of m row truths ≡ truth_of m' row truths
  same_truth row truths lower =
      truth-same setup.table other store found time (mask_of c) row truths (same_stretch setup.table store other alike row lower)

  same_truths : (n : ℕ) → n ≤ rows_of setup.table → truths_after m n ≡ truths_after m' n
  unfolding truths_after
  same_truths zero within = refl
  same_truths (suc n) within = rw (same_truths n (omega arith), same_truth n (truths_after m' n) within)

  same_now : (row : ℕ) → row < rows_of setup.table → ring_now m row ≡ ring_now m' row
  same_now row lower = go (heartbeat? (mask_of c))
    where
      go : (beat : Bool)
          → cond beat (ring_clipped setup.table store found.counts found.firsts time) (ring_judged m) row
          ≡ cond beat (ring_clipped setup.table other found.counts found.firsts time) (ring_judged m') row
      go true = rw (same_stretch setup.table store other alike row lower)
      go false =
          rw (same_truths row (omega arith), same_spans row (truths_after m' row) lower, same_first row (truths_after m' row) lower) refl

  same_entries : (entry : Ring → ℕ) (entries : List ℕ) (n : ℕ) → n ≤ rows_of setup.table
      → entries_with (λ row. entry (ring_now m row)) entries n ≡ entries_with (λ row. entry (ring_now m' row)) entries n
  unfolding entries_with
  same_entries entry entries zero within = refl
  same_entries entry entries (suc n) within = rw (same_entries entry entries n (omega arith), same_now n within)

  same_done : (n : ℕ) → n ≤ rows_of setup.table → words_done setup.table (ring_now m) n ≡ words_done setup.table (ring_now m') n
  unfolding words_done
  same_done zero within = refl
  same_done (suc n) within = rw (same_done n (omega arith), same_now n within)

  alike_by : (o : Option Refused) → refusal_of setup store found c ≡ o → refusal_of setup other found c ≡ o → Alike setup store other found c
  unfolding step_of record_after
  alike_by (some fault) e e' =
      record { reply = rw (e, e'); left = rw (e, e'); needed = rw (e, e') alike.words; spare = rw e }
  alike_by none e e' =
      let rows = rows_of setup.table in
      let truths = same_truths rows (omega arith) in
      let counts = same_entries (λ ring. length ring.spans) found.counts rows (omega arith) in
      let firsts = same_entries (λ ring. ring.first) found.firsts rows (omega arith) in
      let first : Accepted setup store found c = accepted_of setup store found c e in
      let second : Accepted setup other found c = accepted_of setup other found c e' in
      let room : Room setup.table (ring_now m) rows = room_after m (room_of first.ready) first.sound first.early first.risen in
      let room' : Room setup.table (ring_now m') rows = room_after m' (room_of second.ready) second.sound second.early second.risen in
      record {
        reply = rw (e, e', truths);
        left = rw (e, e', truths, counts, firsts);
        needed =
            rw (e, e')
            (words-done setup.table (ring_now m) store rows room
            ∙ same_done rows (omega arith)
            ∙ sym (words-done setup.table (ring_now m') other rows room'));
        spare = rw e (words_left setup.table (ring_now m) store rows room);
      }

  call-alike : Alike setup store other found c
  call-alike = alike_by (refusal_of setup store found c) refl (sym same_refusal)

-- A start looks only at the size.
module _ (setup : Setup) (store other : List ℕ) (alike : SameNeeded setup.table store other) where
  abbrev need : ℕ
  need = need_of setup.table

  other-said : {said : CheckReply} → ready_of setup (length store) ≡ said → ready_of setup (length other) ≡ said
  other-said e = sym (same_ready setup store other alike) ∙ e

  good_alike : ready_of setup (length store) ≡ passed (rows_of setup.table) need → BegunAlike setup store other
  unfolding start_of
  good_alike e =
      let zeros : List ℕ = replicate need 0 in
      let size : length zeros ≡ need = length-replicate need 0 in
      record {
        refusal = rw (e, other-said e);
        given = rw (e, other-said e);
        needed =
            rw (e, other-said e)
            (take_at zeros (drop need store) need size ∙ sym (take_at zeros (drop need other) need size));
        spare = rw e (drop_at zeros (drop need store) need size);
      }

  refused_alike : (fault : Refused) → ready_of setup (length store) ≡ refused_by fault → BegunAlike setup store other
  unfolding start_of
  refused_alike fault e =
      record { refusal = rw (e, other-said e); given = rw (e, other-said e); needed = rw (e, other-said e) alike.words; spare = rw e }

  start_alike : BegunAlike setup store other
  start_alike =
      ⊎_elim
      (λ ready. good_alike (start-passes setup (length store) ready))
      (λ wrong. refused_alike wrong.0 (start-refuses setup (length store) wrong.0 wrong.1))
      (start_decided setup (length store))

pub spare-words : SpareWords
spare-words = record { call = call-alike; start = start_alike }
