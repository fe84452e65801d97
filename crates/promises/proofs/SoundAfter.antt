-- A call at a sound record: whatever the truths, each row's spans after it are sound and have room, whether or not a stream reaches the record.
use mathlib.Core.Bool.{Bool, true, false, cond, not}
use mathlib.Core.List.{List}
use mathlib.Core.Path.{◌≡◌}
use Prim.Native.Nat.{ℕ, ◌+◌, ◌≤◌, ◌<◌, max}
use native.Mathlib.Omega.{arith}
use lib.ListN.{length}
use Rattle.meaning.specs.Interval.{end_of, ◌+End◌}
use Rattle.meaning.specs.Heartbeat.{heartbeat?}
use Rattle.meaning.specs.Spans.{Span}
use Rattle.meaning.specs.Sound.{length_of}
use Rattle.meaning.proofs.SoundLaws.{none-sound}
use Rattle.kinds.specs.Kinds.{Rule, plain, stretch}
use Rattle.rules.specs.Rows.{rows_of, numbers_at, rule_of, kept_by, fed_by}
use Rattle.rules.specs.declared.numbers.Numbers.{Numbers}
use Rattle.rules.proofs.PassedLaws.{InRange, range_order}
use Rattle.times.specs.Times.{time_limit}
use Rattle.row_list.specs.Truths.{truth_at}
use Rattle.soundness.specs.Record.{spans_found, clock_of, event_time}
use Rattle.monitor.specs.Event.{Moment, spans_by, spans_after, truths_after, spans_judged, spans_clipped, ring_judged, ring_clipped, heartbeat_else, ring_now, spans_now}
use Rattle.spans.proofs.LayoutLaws.{laid-read}
use Rattle.meaning.proofs.SoundKept.{clip-sound, sound-kept}
use Rattle.meaning.proofs.Tells.{told_true}
use Rattle.soundness.proofs.ReadyLaws.{table_ready}
use Rattle.monitor.proofs.EventLaws.{Room}
use Rattle.monitor.proofs.AcceptedLaws.{Accepted, now_enough}
use Rattle.promises.specs.Conditions.{RowSound, StretchRight, RecordRight}
use Rattle.promises.proofs.TableRefusals.{TableRoom, table-passes}
use Rattle.promises.proofs.StretchTold.{in_range_of, row_stored}
use Rattle.promises.proofs.RecordTold.{all-stretches, record_told}

-- The conditions of a call are met, as the monitor's own laws have them.
monitor_met : (m : Moment)
    → TableRoom m.table (length m.store)
    → RecordRight m.table m.store m.found
    → m.time ≤ time_limit
    → clock_of m.found ≤ m.time
    → Accepted m.table m.store m.found m.time
monitor_met m ready right early risen =
    record {
      ready = table_ready m.table (length m.store) (record { passes = rw (table-passes m.table ready.right); room = ready.room });
      sound = told_true (record_told m.table m.store ready m.found) right;
      early = early;
      risen = risen;
    }

pub room_after : (m : Moment)
    → TableRoom m.table (length m.store)
    → RecordRight m.table m.store m.found
    → m.time ≤ time_limit
    → clock_of m.found ≤ m.time
    → Room m.table (ring_now m) (rows_of m.table)
room_after m ready right early risen = now_enough m (monitor_met m ready right early risen)

module _
    (m : Moment)
    (ready : TableRoom m.table (length m.store))
    (right : RecordRight m.table m.store m.found)
    (risen : clock_of m.found ≤ m.time)
    (row : ℕ)
    (lower : row < rows_of m.table)
  where
    abbrev n : Numbers
    n = numbers_at m.table row

    abbrev before : List Span
    before = spans_found m.table m.store m.found row

    -- The clock, and the last event's time, as found.
    abbrev clock : ℕ
    clock = clock_of m.found

    abbrev event : ℕ
    event = event_time m.found

    range : InRange n.a n.b
    range = in_range_of (ready.right.rows row lower).1

    -- The spans found are those laid out, and sound.
    pub found-laid : StretchRight m.table m.store m.found row
    found-laid = all-stretches m.table m.store ready m.found right row lower

    pub found-is : before ≡ found-laid.spans
    found-is =
        laid-read found-laid.laid
        (row_stored n clock event found-laid.spans (omega (arith, right.order, right.limit)) range found-laid.sound)

    pub found-sound : RowSound n clock event before
    found-sound = rw found-is found-laid.sound

    by-sound : (truths : List ℕ) (rule : Rule) → RowSound n m.time m.time (spans_by m.time truths before n rule)
    by-sound truths (plain says) =
        none-sound m.time (max m.time (m.time + n.a)) (m.time +End end_of n.b) (length_of n.a (end_of n.b))
    by-sound truths (stretch columns) =
        sound-kept (kept_by true (truth_at truths) n columns.keep) (fed_by not (truth_at truths) n columns)
        clock m.time event n.a (max clock (event + n.a)) (max m.time (m.time + n.a)) (end_of n.b) before
        (range_order n.a n.b range) risen (omega (arith, right.order)) (omega (arith, right.order)) (omega arith) found-sound

    judged-sound : RowSound n m.time m.time (spans_judged m row)
    unfolding spans_after
    judged-sound = by-sound (truths_after m row) (rule_of n)

    clipped-sound : RowSound n m.time event (spans_clipped m.table m.store m.found.counts m.found.firsts m.time row)
    clipped-sound =
        clip-sound clock m.time event event (max clock (event + n.a)) (max m.time (event + n.a)) (length_of n.a (end_of n.b))
        (end_of n.b) before risen (omega arith) (omega arith) (omega arith) found-sound

    -- After an event, or after a heartbeat, which leaves the event's time.
    pub now-sound : RowSound n m.time (heartbeat_else m event m.time) (spans_now m row)
    now-sound = go (heartbeat? m.mask)
      where
        go : (beat : Bool)
            → RowSound n m.time (cond beat event m.time)
            (cond beat (ring_clipped m.table m.store m.found.counts m.found.firsts m.time) (ring_judged m) row).spans
        go true = clipped-sound
        go false = judged-sound
