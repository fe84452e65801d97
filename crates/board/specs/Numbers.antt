-- What a call leaves that writes single numbers: its code, and each number. "A refused call leaves every .. single number as it was, but for the place in
-- a text".
use Rattle.std.specs.Prelude.{List, ◌≡◌, ℕ, get_or}
use Rattle.rules.specs.Table as Table
use Rattle.times.specs.FrameTime.{TimeReply, at, not_at, frame_time_of}
use Rattle.lines.specs.Read as Read
use Rattle.lines.specs.Frame.{read_frame}
use Rattle.codes.specs.Code.{refusal_code}

-- "refusals 1 to 3, or 0, and the row count and the need in words are written".
pub record Taken : Type 0 where
  pub code : ℕ
  pub rows : ℕ
  pub need : ℕ

abbrev pub checked : (code rows need : ℕ) → Taken
checked code rows need = record { code = code; rows = rows; need = need }

abbrev pub checked_of : Table.CheckReply → (rows need : ℕ) → Taken
checked_of (Table.passed counted words) rows need = checked 0 counted words
checked_of (Table.refused_by fault) rows need = checked (refusal_code fault) rows need

-- The code that a table check answers, and the numbers that then stand where rows and need stood.
abbrev pub CheckLeaves : (table : List ℕ) (rows need : ℕ) → (code rows_after need_after : ℕ) → Type 0
CheckLeaves table rows need code rows_after need_after = checked code rows_after need_after ≡ checked_of (Table.check_of table) rows need

-- "refusal 6 ..; otherwise 0, and the time is written".
pub record Timed : Type 0 where
  pub code : ℕ
  pub time : ℕ

abbrev pub timed : (code time : ℕ) → Timed
timed code time = record { code = code; time = time }

abbrev pub timed_of : TimeReply → (time : ℕ) → Timed
timed_of (at shown) time = timed 0 shown
timed_of (not_at fault) time = timed (refusal_code fault) time

-- The code that a frame's time is answered by, and the number that then stands where time stood.
abbrev pub TimeLeaves : (clock counter time : ℕ) → (code time_after : ℕ) → Type 0
TimeLeaves clock counter time code time_after = timed code time_after ≡ timed_of (frame_time_of clock counter) time

-- "MUK_END 0", "MUK_FRAME 1": "After a good line the answer is MUK_FRAME, counter and mask are written". The place is the next one, whatever was read.
pub record LineGiven : Type 0 where
  pub code : ℕ
  pub place : ℕ
  pub counter : ℕ
  pub mask : ℕ

abbrev pub line : (code place counter mask : ℕ) → LineGiven
line code place counter mask = record { code = code; place = place; counter = counter; mask = mask }

abbrev pub line_by : Read.LineReply → (next counter mask : ℕ) → LineGiven
line_by Read.at_end next counter mask = line 0 next counter mask
line_by (Read.good_line given) next counter mask = line 1 next (get_or given 0 0) (get_or given 1 0)
line_by (Read.bad_line fault) next counter mask = line (refusal_code fault) next counter mask

abbrev pub line_left : Read.Read → (counter mask : ℕ) → LineGiven
line_left read counter mask = line_by read.said read.next counter mask

-- The code that the line at a place is answered by, and the numbers that then stand where place, counter and mask stood.
abbrev pub LineLeaves : (text : List ℕ) (place counter mask : ℕ) → (code place_after counter_after mask_after : ℕ) → Type 0
LineLeaves text place counter mask code place_after counter_after mask_after =
    line code place_after counter_after mask_after ≡ line_left (read_frame text place) counter mask
