-- An accepted call leaves a sound record: row by row from the spans after it, which are sound and laid out; the times and truths as a heartbeat leaves
-- them, or as an event makes them.
use mathlib.Core.Bool.{Bool, true, false, cond}
use mathlib.Core.List.{List}
use mathlib.Core.Logic.{⊎_elim}
use mathlib.Core.Option.{Option, none, some}
use mathlib.Core.Path.{◌≡◌, refl, sym, ap, ◌∙◌}
use Prim.Native.Nat.{ℕ, ◌≤◌, ◌<◌}
use native.Mathlib.Omega.{arith}
use lib.Dec.{T}
use lib.ListN.{length, get_or}
use Rattle.meaning.specs.Heartbeat.{heartbeat?}
use Rattle.meaning.proofs.Truths.{no_truth}
use Rattle.meaning.specs.Spans.{clip}
use Rattle.rules.specs.Limits.{row_limit}
use Rattle.spans.specs.Layout.{spans_from, spans_held, Laid}
use Rattle.refusals.specs.Refusals.{Refused}
use Rattle.rules.specs.Rows.{rows_of, numbers_at}
use Rattle.rules.specs.Stretches.{spans_of, width}
use Rattle.soundness.specs.declared.record.Record.{Record}
use Rattle.times.specs.Times.{time_limit}
use Rattle.row_list.specs.Truths.{byte_of, is_true, truth_at}
use Rattle.soundness.specs.Record.{was_seen, clock_of, event_time, stretch_at, held_at}
use Rattle.monitor.specs.Event.{Moment, truth_of, truths_after, ring_now, spans_now, counts_with, record_after, store_after}
use Rattle.soundness.specs.Setup.{Setup}
use Rattle.monitor.specs.Step.{refusal_of, moment_of, outcome_by, step_of}
use Rattle.row_list.proofs.TruthsLaws.{byte_small}
use Rattle.monitor.proofs.EventLaws.{Room, length-store, spans_clipped_lem}
use Rattle.monitor.proofs.RisingLaws.{length_truths, truth_set, truth-left, length_entries, entry_set, entry_left}
use Rattle.promises.specs.Stream.{accepted?}
use Rattle.promises.specs.Conditions.{RecordRight}
use Rattle.promises.proofs.TableRefusals.{TableRoom, room_of}
use Rattle.promises.specs.SoundIsKept.{Sized, SoundIsKept}
use Rattle.promises.proofs.RowsAfter.{row_laid}
use Rattle.promises.proofs.StretchTold.{since-spans, other-spans}
use Rattle.promises.proofs.RecordTold.{within_or_past}
use Rattle.promises.proofs.SoundAfter.{now-sound, room_after}
use Rattle.promises.proofs.Refusing.{Accepted, accepted_of}

-- Where no span is held none is left.
none_clipped : (time first : ℕ) (words : List ℕ) → length (clip time (spans_held words (record { first = first; count = 0 }))) ≡ 0
unfolding clip spans_from
none_clipped time first words = refl

module _
    (m : Moment)
    (ready : TableRoom m.table (length m.store))
    (right : RecordRight m.table m.store m.found)
    (risen : clock_of m.found ≤ m.time)
    (early : m.time ≤ time_limit)
    (sized : Sized m.found)
  where
    abbrev rows : ℕ
    rows = rows_of m.table

    abbrev count : ℕ → ℕ
    count row = get_or (counts_with (ring_now m) m.found.counts rows) row 0

    room : Room m.table (ring_now m) rows
    room = room_after m ready right early risen

    has-entry : (row : ℕ) → row < rows → row < length m.found.counts
    has-entry row lower = omega (arith, ready.right.lengths.most, sized.counts)

    has_first : (row : ℕ) → row < rows → row < length m.found.firsts
    has_first row lower = omega (arith, ready.right.lengths.most, sized.firsts)

    laid-after : (row : ℕ) → row < rows
        → Laid (width (numbers_at m.table row)) (stretch_at m.table (store_after m) row) (held_at (record_after m) row) (spans_now m row)
    laid-after row lower = row_laid m row lower (has-entry row lower) (has_first row lower) room

    count_fits : (row : ℕ) → row < rows → count row ≤ spans_of (numbers_at m.table row)
    count_fits row lower = rw (entry_set (λ r. length (spans_now m r)) m.found.counts rows row lower (has-entry row lower)) (room row lower).few

    -- What a heartbeat leaves of the times and the truths, and what an event makes of them.
    record Told (seen last : ℕ) (truths : List ℕ) : Type 0 where
      byte : seen ≤ 1
      order : last ≤ m.time
      unseen_time : is_true seen ≡ false → last ≡ 0
      unseen-row : is_true seen ≡ false → (row : ℕ) → row < row_limit → (truth_at truths row ≡ false) × (count row ≡ 0)
      bytes : (row : ℕ) → row < row_limit → get_or truths row 0 ≤ 1
      past : (row : ℕ) → rows ≤ row → row < row_limit → truth_at truths row ≡ false

    -- Before any event there is no span, and a heartbeat makes none.
    none_made : heartbeat? m.mask ≡ true → was_seen m.found ≡ false → (row : ℕ) → row < row_limit → count row ≡ 0
    none_made beat unseen row lower =
        let none : get_or m.found.counts row 0 ≡ 0 = (right.unseen_rows unseen row lower).1 in
        ⊎_elim
        (λ known.
        entry_set (λ r. length (spans_now m r)) m.found.counts rows row known (has-entry row known)
        ∙ rw (spans_clipped_lem m row beat, none) (none_clipped m.time (get_or m.found.firsts row 0) (stretch_at m.table m.store row)))
        (λ past. entry_left (λ r. length (spans_now m r)) m.found.counts rows row past ∙ none)
        (within_or_past m.table row)

    found-told : heartbeat? m.mask ≡ true → Told m.found.seen (event_time m.found) m.found.truths
    found-told beat =
        record {
          byte = right.seen_byte;
          order = omega (arith, right.order);
          unseen_time = right.unseen_time;
          unseen-row = λ unseen row lower. ((right.unseen_rows unseen row lower).0, none_made beat unseen row lower);
          bytes = right.truth-bytes;
          past = right.past;
        }

    made_told : Told (byte_of true) m.time (truths_after m rows)
    made_told =
        record {
          byte = omega arith;
          order = omega arith;
          unseen_time = λ e. absurd (no_truth (sym e));
          unseen-row = λ e. absurd (no_truth (sym e));
          bytes = λ row lower.
              ⊎_elim
              (λ known. rw (truth_set m rows row known (omega (arith, sized.truths))) (byte_small (truth_of m row (truths_after m row))))
              (λ past. rw (truth-left m rows row past) (right.truth-bytes row lower))
              (within_or_past m.table row);
          past = λ row past lower. ap is_true (truth-left m rows row past) ∙ right.past row past lower;
        }

    told : Told (record_after m).seen (record_after m).last (record_after m).truths
    unfolding record_after
    told = go (heartbeat? m.mask) refl
      where
        go : (beat : Bool) → heartbeat? m.mask ≡ beat
            → Told (cond beat m.found.seen (byte_of true)) (cond beat (event_time m.found) m.time) (cond beat m.found.truths (truths_after m rows))
        go true is = found-told is
        go false is = made_told

    pub sound-after : RecordRight m.table (store_after m) (record_after m)
    unfolding record_after
    sound-after =
        record {
          rows = right.rows;
          past = told.past;
          others = λ row lower other.
              ⊎_elim
              (λ known. omega (arith, count_fits row known, other-spans (numbers_at m.table row) other))
              (λ past. entry_left (λ r. length (spans_now m r)) m.found.counts rows row past ∙ right.others row lower other)
              (within_or_past m.table row);
          unplaced = λ row lower other.
              ⊎_elim
              (λ known. (laid-after row known).unplaced (omega (arith, count_fits row known, other-spans (numbers_at m.table row) other)))
              (λ past. entry_left (λ r. (ring_now m r).first) m.found.firsts rows row past ∙ right.unplaced row lower other)
              (within_or_past m.table row);
          within = λ row lower since.
              ⊎_elim
              (λ known. rw (← since-spans (numbers_at m.table row) since) (count_fits row known))
              (λ past. rw (entry_left (λ r. length (spans_now m r)) m.found.counts rows row past) (right.within row lower since))
              (within_or_past m.table row);
          unseen_time = told.unseen_time;
          unseen_rows = told.unseen-row;
          order = told.order;
          limit = early;
          seen_byte = told.byte;
          truth-bytes = told.bytes;
          stretches = λ row lower since.
              record {
                spans = spans_now m row;
                laid = laid-after row lower;
                sound = now-sound m ready right risen row lower;
              };
        }

pub sized-after : (m : Moment) → Sized m.found → Sized (record_after m)
unfolding record_after
sized-after m sized =
    record {
      truths = go (heartbeat? m.mask);
      counts = length_entries (λ r. length (spans_now m r)) m.found.counts (rows_of m.table) ∙ sized.counts;
      firsts = length_entries (λ r. (ring_now m r).first) m.found.firsts (rows_of m.table) ∙ sized.firsts;
    }
  where
    go : (beat : Bool) → length (cond beat m.found.truths (truths_after m (rows_of m.table))) ≡ row_limit
    go true = sized.truths
    go false = length_truths m (rows_of m.table) ∙ sized.truths

-- A call is accepted where no condition fails.
pub accepted_passes : (setup : Setup) (store : List ℕ) (found : Record) (m : Moment) (o : Option Refused)
    → T (accepted? (outcome_by setup store found m o).reply)
    → o ≡ none
accepted_passes setup store found m none accepted = refl
accepted_passes setup store found m (some fault) accepted = absurd accepted

pub sound_is_kept : SoundIsKept
unfolding step_of
sound_is_kept setup store found c sized e =
    let m = moment_of setup store found c in
    let passes : refusal_of setup store found c ≡ none = accepted_passes setup store found m (refusal_of setup store found c) e in
    let accepted : Accepted setup store found c = accepted_of setup store found c passes in
    let room : Room m.table (ring_now m) (rows_of m.table) = room_after m (room_of accepted.ready) accepted.sound accepted.early accepted.risen in
    record {
      sound = rw passes (sound-after m (room_of accepted.ready) accepted.sound accepted.risen accepted.early sized);
      sized = rw passes (sized-after m sized);
      size = rw passes (length-store m.table (ring_now m) m.store (rows_of m.table) room accepted.ready.room);
    }
