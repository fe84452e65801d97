-- One event, rows rising, from what was found (document 01, "Spans, store and record": "One event at t, rows rising .."); and a heartbeat, which "only
-- moves the clock" (document 02, E2).
use Rattle.std.specs.Prelude.{Bool, true, cond, not, ◌&&◌, ◌||◌, List, [], ◌++◌, ℕ, zero, suc, length, drop, set}
use Rattle.meaning.specs.Interval.{end_of}
use Rattle.meaning.specs.Computed.{within?, bit_set?}
use Rattle.meaning.specs.Heartbeat.{heartbeat?}
use Rattle.meaning.specs.Spans.{Span, reached_from, clip, update}
use Rattle.kinds.specs.Kinds.{Rule, plain, stretch}
use Rattle.kinds.specs.declared.plain.Plain.TheVariants as Plain
use Rattle.rules.specs.Rows.{rows_of, numbers_at, rule_of, kept_by, taken, fed_by}
use Rattle.rules.specs.Stretches.{spans_of, width, offset}
use Rattle.rules.specs.declared.numbers.Numbers.{Numbers}
use Rattle.spans.specs.Layout.{spans_held, ring_of}
use Rattle.spans.specs.Stretch.{covered, kept_of, first_left}
use Rattle.soundness.specs.declared.record.Record.{Record}
use Rattle.monitor.specs.declared.event.Arrival.{Arrival}
use Rattle.row_list.specs.Truths.{byte_of, is_true, truth_at}
use Rattle.soundness.specs.Record.{event_time, held_in, held_at, stretch_at, spans_found}

-- An event or a heartbeat, and what it meets: the table, the store and the record as they were found.
pub record Moment : Type 0 where
  pub table : List ℕ
  pub store : List ℕ
  pub found : Record
  pub time : ℕ
  pub mask : ℕ

-- The event beside what the record tells of the one before it.
abbrev pub arrival_of : Moment → Arrival
arrival_of m = record { time = m.time; mask = m.mask; seen = m.found.seen; last = event_time m.found; truths = m.found.truths }

-- "a since row's spans are clipped at t and ended ones dropped, then all dropped if x is now false, then t+a to t+b is joined in if y is true";
-- what keeps and what feeds, by the kind's columns and the truths of the lower rows at this event. A row without a stretch holds no spans.
abbrev pub spans_by : (time : ℕ) (truths : List ℕ) → List Span → Numbers → Rule → List Span
spans_by time truths before row (plain says) = []
spans_by time truths before row (stretch columns) =
    update (kept_by true (truth_at truths) row columns.keep) (fed_by not (truth_at truths) row columns) time
    (reached_from time row.a (end_of row.b)) before

-- What is left of the spans found before anything is joined in; the first place goes on, round, by as many as were dropped.
abbrev pub spans_left : (time : ℕ) (truths : List ℕ) → List Span → Numbers → Rule → List Span
spans_left time truths before row (plain says) = []
spans_left time truths before row (stretch columns) = kept_of (kept_by true (truth_at truths) row columns.keep) time before

unfoldable pub first_after : Moment → ℕ → List ℕ → ℕ
first_after m row truths =
    first_left (spans_of (numbers_at m.table row)) (held_at m.found row)
    (length (spans_left m.time truths (spans_found m.table m.store m.found row) (numbers_at m.table row) (rule_of (numbers_at m.table row))))

unfoldable pub spans_after : Moment → ℕ → List ℕ → List Span
spans_after m row truths =
    spans_by m.time truths (spans_found m.table m.store m.found row) (numbers_at m.table row) (rule_of (numbers_at m.table row))

-- "kind 5 uses the truth and time found (false if no event was seen)".
abbrev pub previous_held : Arrival → Numbers → Bool
previous_held e row = is_true e.seen && truth_at e.truths row.x && within? row.a (end_of row.b) e.last e.time

-- The meaning of a row by its kind, from the truths found and those of the lower rows at this event. "The row is true at t exactly when t lies in a
-- span", or in none, by the kind's column.
abbrev pub truth_by : Arrival → (truths : List ℕ) → List Span → Numbers → Rule → Bool
truth_by e truths after row (plain Plain.Truth) = true
truth_by e truths after row (plain Plain.Bit) = bit_set? row.x e.mask
truth_by e truths after row (plain Plain.Negation) = not (truth_at truths row.x)
truth_by e truths after row (plain Plain.Both) = truth_at truths row.x && truth_at truths row.y
truth_by e truths after row (plain Plain.Either) = truth_at truths row.x || truth_at truths row.y
truth_by e truths after row (plain Plain.Previous) = previous_held e row
truth_by e truths after row (stretch columns) = taken not columns.inside (covered e.time after)

unfoldable pub truth_of : Moment → ℕ → List ℕ → Bool
truth_of m row truths =
    truth_by (arrival_of m) truths (spans_after m row truths) (numbers_at m.table row) (rule_of (numbers_at m.table row))

-- "rows rising": the truths after the rows below n, the others as found.
unfoldable pub truths_after : Moment → ℕ → List ℕ
truths_after m zero = m.found.truths
truths_after m (suc n) = set (truths_after m n) n (byte_of (truth_of m n (truths_after m n)))

-- The spans of a row after an event; after a heartbeat, "spans are clipped at its time".
abbrev pub spans_judged : Moment → ℕ → List Span
spans_judged m row = spans_after m row (truths_after m row)

abbrev pub spans_clipped : (table store counts firsts : List ℕ) (time : ℕ) → ℕ → List Span
spans_clipped table store counts firsts time row = clip time (spans_held (stretch_at table store row) (held_in counts firsts row))

-- They with the place of the first: what a stretch lays out.
pub record Ring : Type 0 where
  pub first : ℕ
  pub spans : List Span

abbrev pub ring_judged : Moment → ℕ → Ring
ring_judged m row = record { first = first_after m row (truths_after m row); spans = spans_judged m row }

abbrev pub ring_clipped : (table store counts firsts : List ℕ) (time : ℕ) → ℕ → Ring
ring_clipped table store counts firsts time row =
    record {
      first =
          first_left (spans_of (numbers_at table row)) (held_in counts firsts row) (length (spans_clipped table store counts firsts time row));
      spans = spans_clipped table store counts firsts time row;
    }

-- What a heartbeat leaves, and what an event makes.
abbrev pub heartbeat_else : {A : Type 0} → Moment → (heartbeat event : A) → A
heartbeat_else m heartbeat event = cond (heartbeat? m.mask) heartbeat event

abbrev pub ring_now : Moment → ℕ → Ring
ring_now m = heartbeat_else m (ring_clipped m.table m.store m.found.counts m.found.firsts m.time) (ring_judged m)

abbrev pub spans_now : Moment → ℕ → List Span
spans_now m row = (ring_now m row).spans

-- Where each row has such a ring: the span counts, the first places and the words, after the rows below n, the others as found.
unfoldable pub entries_with : (ℕ → ℕ) → (found : List ℕ) → ℕ → List ℕ
entries_with entry found zero = found
entries_with entry found (suc n) = set (entries_with entry found n) n (entry n)

abbrev pub counts_with : (ℕ → Ring) → (counts : List ℕ) → ℕ → List ℕ
counts_with rings counts = entries_with (λ row. length (rings row).spans) counts

abbrev pub firsts_with : (ℕ → Ring) → (firsts : List ℕ) → ℕ → List ℕ
firsts_with rings firsts = entries_with (λ row. (rings row).first) firsts

unfoldable pub words_done : (table : List ℕ) → (ℕ → Ring) → ℕ → List ℕ
words_done table rings zero = []
words_done table rings (suc n) = words_done table rings n ++ ring_of (width (numbers_at table n)) (rings n).first (rings n).spans

unfoldable pub store_with : (table store : List ℕ) → (ℕ → Ring) → ℕ → List ℕ
store_with table store rings n = words_done table rings n ++ drop (offset table n) store

-- The record after all rows: the clock is at the time; "truths stay those of the last true event" at a heartbeat, and so does when that was.
unfoldable pub record_after : Moment → Record
record_after m =
    record {
      seen = heartbeat_else m m.found.seen (byte_of true);
      clock = m.time;
      last = heartbeat_else m (event_time m.found) m.time;
      rows = m.found.rows;
      truths = heartbeat_else m m.found.truths (truths_after m (rows_of m.table));
      counts = counts_with (ring_now m) m.found.counts (rows_of m.table);
      firsts = firsts_with (ring_now m) m.found.firsts (rows_of m.table);
    }

-- The store after them.
abbrev pub store_after : Moment → List ℕ
store_after m = store_with m.table m.store (ring_now m) (rows_of m.table)
