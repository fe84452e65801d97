-- The bytes that are held of an unfinished line.
use Rattle.std.specs.Prelude.{cond, List, ℕ, ◌+◌, min, ltb, take, set}
use Rattle.lines.specs.Line.{digits_of}
use Rattle.lines.specs.ListLine.{mark_bytes}
use Rattle.row_list.specs.RowList.{list_limit}
use Rattle.text.specs.declared.state.Held.{Held}

-- No good line is longer than a list line of the most row numbers, with its line feed.
abbrev pub line_limit : ℕ
line_limit = digits_of (mark_bytes + list_limit) + 1

-- The line as far as it is held.
abbrev pub held_line : Held → List ℕ
held_line h = take (min h.count line_limit) h.bytes

-- One byte more. Of a line that is longer than any good one no more is held.
unfoldable pub holding : Held → ℕ → Held
holding h byte =
    cond (ltb h.count line_limit) (record { bytes = set h.bytes h.count byte; count = h.count + 1 }) h

abbrev pub emptied : Held → Held
emptied h = record { bytes = h.bytes; count = 0 }
