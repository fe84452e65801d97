-- The record, and the part of the store that belongs to each row (document 01, "Spans, store and record").
use Rattle.std.specs.Prelude.{Bool, List, ℕ, get_or, take, drop, replicate}
use Rattle.meaning.specs.Spans.{Span}
use Rattle.row_list.specs.Truths.{is_true}
use Rattle.rules.specs.Limits.{row_limit}
use Rattle.rules.specs.Rows.{numbers_at}
use Rattle.rules.specs.Stretches.{width, offset}
use Rattle.spans.specs.declared.stretch.Held.{Held}
use Rattle.spans.specs.Layout.{spans_held}
use Rattle.soundness.specs.declared.record.Record.{Record}

-- "The record holds: whether an event was seen, .., each row's truth at it, and each row's span count." A heartbeat is not seen as an event.
abbrev pub was_seen : Record → Bool
was_seen found = is_true found.seen

-- "the record keeps both times" (document 02, E2): the clock, before which nothing is accepted any more and from which spans are held, and the time of
-- the last true event, from which ages are counted.
abbrev pub clock_of : Record → ℕ
clock_of found = found.clock

abbrev pub event_time : Record → ℕ
event_time found = found.last

-- What is held of a row's stretch beside its words, by the span counts and "a first place per row" (document 02, E9).
abbrev pub held_in : (counts firsts : List ℕ) → ℕ → Held
held_in counts firsts row = record { first = get_or firsts row 0; count = get_or counts row 0 }

abbrev pub held_at : Record → ℕ → Held
held_at found row = held_in found.counts found.firsts row

-- A row's own stretch of the store, and the spans found in it.
unfoldable pub stretch_at : List ℕ → List ℕ → ℕ → List ℕ
stretch_at table store row = take (width (numbers_at table row)) (drop (offset table row) store)

abbrev pub spans_found : List ℕ → List ℕ → Record → ℕ → List Span
spans_found table store found row = spans_held (stretch_at table store row) (held_at found row)

-- A record with nothing seen and the clock at 0, of so many rows: what a good start gives. With 0 rows it is all zero.
unfoldable pub nothing_seen : ℕ → Record
nothing_seen rows =
    record {
      seen = 0;
      clock = 0;
      last = 0;
      rows = rows;
      truths = replicate row_limit 0;
      counts = replicate row_limit 0;
      firsts = replicate row_limit 0;
    }
