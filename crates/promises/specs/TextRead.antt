-- A text read line after line from its first byte, each reading at the place that the reading before gave, until "end" is answered.
use Rattle.std.specs.Prelude.{List, [], ◌∷◌, map, ◌≡◌, ℕ, zero, suc, ◌+◌, ◌≤◌, length, get_or}
use Rattle.lines.specs.Read.{LineReply, at_end, good_line, bad_line}
use Rattle.lines.specs.Frame.{read_frame}
use Rattle.monitor.specs.Step.{Call, frame_of}

-- The place after so many readings. At the end it stays.
unfoldable pub place_after : List ℕ → ℕ → ℕ → ℕ
place_after text place zero = place
place_after text place (suc readings) = place_after text (read_frame text place).next readings

-- What so many readings say, those before "end".
abbrev pub until_end : LineReply → List LineReply → List LineReply
until_end at_end more = []
until_end (good_line given) more = good_line given ∷ more
until_end (bad_line fault) more = bad_line fault ∷ more

unfoldable pub lines_from : List ℕ → ℕ → ℕ → List LineReply
lines_from text place zero = []
lines_from text place (suc readings) = until_end (read_frame text place).said (lines_from text (read_frame text place).next readings)

-- As many readings as the text has bytes are never too few: the place is then at or past the end, and more readings say nothing more.
abbrev pub lines_read : List ℕ → List LineReply
lines_read text = lines_from text 0 (length text)

pub record ReadWhole (text : List ℕ) : Type 0 where
  pub at_end : length text ≤ place_after text 0 (length text)
  pub no_more : (more : ℕ) → lines_from text 0 (length text + more) ≡ lines_read text

-- The numbers of the good lines.
unfoldable pub good_lines : List LineReply → List (List ℕ)
good_lines [] = []
good_lines (at_end ∷ lines) = good_lines lines
good_lines (good_line given ∷ lines) = given ∷ good_lines lines
good_lines (bad_line fault ∷ lines) = good_lines lines

abbrev pub counter_in : List ℕ → ℕ
counter_in given = get_or given 0 0

-- The calls that good lines make, a frame each, and their counters. A refused line makes no call.
abbrev pub frames_of : List (List ℕ) → List Call
frames_of lines = map frame_of lines

abbrev pub counters_of : List (List ℕ) → List ℕ
counters_of lines = map counter_in lines
