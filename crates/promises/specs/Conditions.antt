-- The conditions of document 01's table of refusals, as document 02 amends them, as propositions in their words, apart from the tests that the contracts
-- cite (`row_passes`, `limits_pass`, `list_passes`, `reached?`, `sound?`).
use Rattle.std.specs.Prelude.{false, List, ◌⊎◌, ◌≡◌, ℕ, ◌+◌, ◌%◌, ◌≤◌, ◌<◌, max, length, get_or}
use Rattle.meaning.specs.Interval.{end_of, no_end_number, ◌+End◌}
use Rattle.meaning.specs.Spans.{Span}
use Rattle.meaning.specs.Sound.{SoundSpans, length_of}
use Rattle.meaning.specs.Figure.{figure}
use Rattle.meaning.specs.Heartbeat.{heartbeat_bit}
use Rattle.row_list.specs.RowList.{list_limit}
use Rattle.rules.specs.Limits.{row_numbers, row_limit, longest}
use Rattle.rules.specs.Rows.{rows_of, numbers_at}
use Rattle.rules.specs.Stretches.{width, need_of}
use Rattle.rules.specs.declared.numbers.Numbers.{Numbers}
use Rattle.dead_rows.specs.Reached.{Reached}
use Rattle.soundness.specs.declared.record.Record.{Record}
use Rattle.soundness.specs.Setup.{Setup}
use Rattle.spans.specs.Layout.{Laid}
use Rattle.times.specs.Times.{time_limit}
use Rattle.row_list.specs.Truths.{truth_at}
use Rattle.soundness.specs.Record.{was_seen, held_at, stretch_at, clock_of, event_time}

-- 1: "table length not a multiple of 5, or rows not 1 to" the limit is that this fails.
pub record LengthRight (table : List ℕ) : Type 0 where
  pub whole : length table % row_numbers ≡ 0
  pub least : 1 ≤ rows_of table
  pub most : rows_of table ≤ row_limit

-- 2: "kind over 6" (over 8 by document 02, E1), "x or y not lower, bit over 31" (and bit 31 itself, the heartbeat's, by E2), "unused not 0" is that none of
-- these is so: the column "used" of the rule table, kind by kind.
pub data RowRight (row : ℕ) (n : Numbers) : Type 0 where
  truth : n.kind ≡ 0 → n.x ≡ 0 → n.y ≡ 0 → n.a ≡ 0 → n.b ≡ 0 → RowRight row n
  bit : n.kind ≡ 1 → n.x < heartbeat_bit → n.y ≡ 0 → n.a ≡ 0 → n.b ≡ 0 → RowRight row n
  negation : n.kind ≡ 2 → n.x < row → n.y ≡ 0 → n.a ≡ 0 → n.b ≡ 0 → RowRight row n
  both : n.kind ≡ 3 → n.x < row → n.y < row → n.a ≡ 0 → n.b ≡ 0 → RowRight row n
  either : n.kind ≡ 4 → n.x < row → n.y < row → n.a ≡ 0 → n.b ≡ 0 → RowRight row n
  previous : n.kind ≡ 5 → n.x < row → n.y ≡ 0 → RowRight row n
  since : n.kind ≡ 6 → n.x < row → n.y < row → RowRight row n
  once : n.kind ≡ 7 → n.x < row → n.y ≡ 0 → RowRight row n
  always : n.kind ≡ 8 → n.x < row → n.y ≡ 0 → RowRight row n

-- 3: "a or b outside the range above" is that this fails: "a is 0 to 86,400,000; b is a to 86,400,000, or 4,294,967,295 for 'no end'".
pub record LimitsRight (a b : ℕ) : Type 0 where
  pub low : a ≤ longest
  pub high : ((a ≤ b) × (b ≤ longest)) ⊎ (b ≡ no_end_number)

-- Every row below n is right.
abbrev pub RowsRight : List ℕ → ℕ → Type 0
RowsRight table n =
    (row : ℕ) → row < n → RowRight row (numbers_at table row) × LimitsRight (numbers_at table row).a (numbers_at table row).b

pub record TableRight (table : List ℕ) : Type 0 where
  pub lengths : LengthRight table
  pub rows : RowsRight table (rows_of table)

-- 10: "a list of 1 to 16 row numbers, strictly rising, each within the table; otherwise refusal 10" (document 02, E4) is that this fails.
pub record ListRight (table list : List ℕ) : Type 0 where
  pub least : 1 ≤ length list
  pub most : length list ≤ list_limit
  pub rising : (i j : ℕ) → i < j → j < length list → get_or list i 0 < get_or list j 0
  pub within : (i : ℕ) → i < length list → get_or list i 0 < rows_of table

-- Every row below n is reached.
abbrev pub RowsReached : (table list : List ℕ) → ℕ → Type 0
RowsReached table list n = (row : ℕ) → row < n → Reached table list row

-- 11: "some row is reached from no listed row" (document 02, E8) is that this fails.
abbrev pub AllReached : (table list : List ℕ) → Type 0
AllReached table list = RowsReached table list (rows_of table)

-- Neither 10 nor 11 is so.
pub record ListServes (table list : List ℕ) : Type 0 where
  pub right : ListRight table list
  pub reached : AllReached table list

-- The table is right, the list serves it, and 4: "store shorter than the need" is not so.
pub record Ready (setup : Setup) (size : ℕ) : Type 0 where
  pub right : TableRight setup.table
  pub listed : ListServes setup.table setup.list
  pub room : need_of setup.table ≤ size

-- A since row is of kind 6; "The sound record counts these rows as since rows" (document 02, E1) of once and always, kinds 7 and 8.
abbrev pub SinceKind : ℕ → Type 0
SinceKind kind = (kind ≡ 6) ⊎ ((kind ≡ 7) ⊎ (kind ≡ 8))

abbrev pub IsSince : Numbers → Type 0
IsSince n = SinceKind n.kind

-- "in each stretch: first ≤ last; .. each later first is at least the former last + 2", and "that firsts are not below the clock, and lasts not above event
-- time + b (for 'no end', first from clock to the greater of clock and event time + a; length is asked of spans whose first is above the clock)".
abbrev pub RowSound : Numbers → (clock event : ℕ) → List Span → Type 0
RowSound n clock event S = SoundSpans clock (max clock (event + n.a)) (event +End end_of n.b) (length_of n.a (end_of n.b)) S

pub record StretchRight (table store : List ℕ) (found : Record) (row : ℕ) : Type 0 where
  pub spans : List Span
  pub laid : Laid (width (numbers_at table row)) (stretch_at table store row) (held_at found row) spans
  pub sound : RowSound (numbers_at table row) (clock_of found) (event_time found) spans

-- 7: "record not sound" is that this fails. "A record is sound when all of these hold".
pub record RecordRight (table store : List ℕ) (found : Record) : Type 0 where
  -- "its row count is the table's; truths past it are false;"
  pub rows : found.rows ≡ rows_of table
  pub past : (row : ℕ) → rows_of table ≤ row → row < row_limit → truth_at found.truths row ≡ false
  -- "span counts are 0 except at since rows, and within the row's figure there;"
  pub others : (row : ℕ) → row < row_limit → ¬ IsSince (numbers_at table row) → get_or found.counts row 0 ≡ 0
  pub within : (row : ℕ)
      → row < row_limit
      → IsSince (numbers_at table row)
      → get_or found.counts row 0 ≤ figure (numbers_at table row).a (end_of (numbers_at table row).b)
  -- "0 where there is .. no stretch" (document 02, E9); of a stretch `Laid` says what its first place is.
  pub unplaced : (row : ℕ) → row < row_limit → ¬ IsSince (numbers_at table row) → get_or found.firsts row 0 ≡ 0
  -- "if no event was seen, time, truths and span counts are 0 or false;" the time is the event's: "a record may then be sound with a clock and no event"
  pub unseen_time : was_seen found ≡ false → event_time found ≡ 0
  pub unseen_rows : was_seen found ≡ false
      → (row : ℕ)
      → row < row_limit
      → (truth_at found.truths row ≡ false) × (get_or found.counts row 0 ≡ 0)
  -- "that the event time is at most the clock, the clock within the time limit", "281,474,976,710,655"
  pub order : event_time found ≤ clock_of found
  pub limit : clock_of found ≤ time_limit
  -- What tells a truth is a byte that is 0 or 1.
  pub seen_byte : found.seen ≤ 1
  pub truth-bytes : (row : ℕ) → row < row_limit → get_or found.truths row 0 ≤ 1
  -- "in each stretch: .."
  pub stretches : (row : ℕ) → row < rows_of table → IsSince (numbers_at table row) → StretchRight table store found row
