-- When record and store are sound for a table (document 01, "A record is sound when all of these hold", with the two times of document 02, E2), computed
-- row by row. That the test tells exactly the documents' conditions is `record_told` of the promises.
use Rattle.std.specs.Prelude.{Bool, true, ◌&&◌, ◌||◌, List, ℕ, zero, suc, ◌+◌, max, leb, ltb, eqb, get_or}
use Rattle.meaning.specs.Interval.{end_of, ◌+End◌}
use Rattle.meaning.specs.Sound.{length_of}
use Rattle.rules.specs.Limits.{row_limit}
use Rattle.rules.specs.Rows.{rows_of, numbers_at}
use Rattle.rules.specs.Stretches.{spans_of}
use Rattle.rules.specs.declared.numbers.Numbers.{Numbers}
use Rattle.spans.specs.declared.stretch.Held.{Held}
use Rattle.sound_spans.specs.StretchSound.{sound_stretch?}
use Rattle.soundness.specs.declared.record.Record.{Record}
use Rattle.times.specs.Times.{time_limit}
use Rattle.row_list.specs.Truths.{is_true}
use Rattle.soundness.specs.Record.{was_seen, clock_of, event_time, held_at, stretch_at}

-- Every row below n passes.
unfoldable pub every : ℕ → (ℕ → Bool) → Bool
every zero test = true
every (suc n) test = every n test && test n

-- A byte that tells a truth is 0 or 1.
abbrev pub truth_byte? : ℕ → Bool
truth_byte? byte = leb byte 1

-- What the record says of a row of the table: "span counts are 0 except at since rows, and within the row's figure there"; "if no event was seen,
-- .. truths and span counts are 0 or false".
abbrev pub sound_entry? : (seen : Bool) (truth count : ℕ) → Numbers → Bool
sound_entry? seen truth count numbers = truth_byte? truth && leb count (spans_of numbers) && (seen || (eqb truth 0 && eqb count 0))

-- "in each stretch: ..": "firsts are not below the clock, and lasts not above event time + b (for 'no end', first from clock to the greater of clock and
-- event time + a ..)".
abbrev pub sound_limits? : List ℕ → Held → (clock event : ℕ) → Numbers → Bool
sound_limits? words held clock event numbers =
    sound_stretch? words held clock (max clock (event + numbers.a)) (event +End end_of numbers.b) (length_of numbers.a (end_of numbers.b))

unfoldable pub sound_row? : List ℕ → List ℕ → Record → ℕ → Bool
sound_row? table store found row =
    sound_entry? (was_seen found) (get_or found.truths row 0) (get_or found.counts row 0) (numbers_at table row)
    && sound_limits? (stretch_at table store row) (held_at found row) (clock_of found) (event_time found) (numbers_at table row)

-- Past the table's rows "truths .. are false", and "span counts are 0", and first places "where there is .. no stretch".
unfoldable pub zero_past? : (rows : ℕ) (truths counts firsts : List ℕ) → ℕ → Bool
zero_past? rows truths counts firsts row =
    ltb row rows || (eqb (get_or truths row 0) 0 && (eqb (get_or counts row 0) 0 && eqb (get_or firsts row 0) 0))

-- "the event time is at most the clock, the clock within the time limit"; before any event its time is 0, and the clock any that is within.
abbrev pub sound_times? : (seen clock event : ℕ) → Bool
sound_times? seen clock event = truth_byte? seen && leb event clock && leb clock time_limit && (is_true seen || eqb event 0)

-- "its row count is the table's"; then the times, each row of the table, and what stands past them.
unfoldable pub sound? : List ℕ → List ℕ → Record → Bool
sound? table store found =
    eqb found.rows (rows_of table)
    && sound_times? found.seen (clock_of found) (event_time found)
    && every (rows_of table) (sound_row? table store found)
    && every row_limit (zero_past? (rows_of table) found.truths found.counts found.firsts)
