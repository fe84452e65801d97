-- A list line read at a place (document 02, E4): "AA, with which no rule line may start, 1 to 16 two-digit row numbers, the sum of all these bytes
-- modulo 256". Its numbers are not judged.
use Rattle.std.specs.Prelude.{Bool, cond, ◌&&◌, List, [], ◌++◌, ◌≡◌, ℕ, ◌+◌, ◌-◌, ◌/◌, leb, eqb, length, replicate, Some, None, Ok, Err}
use Rattle.refusals.specs.declared.refusal.Refusal.TheVariants as refusal
use Rattle.row_list.specs.declared.list.RowList.{RowList}
use Rattle.row_list.specs.RowList.{list_limit, numbers_of}
use Rattle.lines.specs.declared.read.Read as Code
use Rattle.lines.specs.Digits.{byte_at, byte_a, byte_digits, digits_at}
use Rattle.lines.specs.Line.{Found, digits_of, line_at, next_place}
use Rattle.lines.specs.Read.{LineReply, at_end, good_line, bad_line, Read, numbers_read, line_reply, read_said}

-- "AA, with which no rule line may start".
unfoldable pub list_marked : List ℕ → ℕ → Bool
list_marked text place = eqb (byte_at text place) byte_a && eqb (byte_at text (place + 1)) byte_a

-- The mark is one of the data bytes.
abbrev pub mark_bytes : ℕ
mark_bytes = 1

-- How many row numbers the digits at a place leave room for, between the mark and the sum. The digits of the longest list line are looked at, no more.
unfoldable pub list_count : List ℕ → ℕ → ℕ
list_count text place = digits_at text place (digits_of (mark_bytes + list_limit)) / byte_digits - (mark_bytes + 1)

-- What stands at a place: a line of the mark and of one row number at least, whose digits are right to its line feed.
unfoldable pub list_at : List ℕ → ℕ → Found
list_at text place =
    cond (leb (length text) place) None
    (cond (list_marked text place && leb 1 (list_count text place)) (line_at text place (mark_bytes + list_count text place)) (Some (Err refusal.BadLine)))

-- The row numbers after the mark, "two-digit".
abbrev pub rows_at : List ℕ → ℕ → ℕ → List ℕ
rows_at text place count = numbers_read text place byte_digits (replicate count 1)

abbrev pub read_list : List ℕ → ℕ → Read
read_list text place =
    record {
      said = line_reply (list_at text place) (rows_at text place (list_count text place));
      next = next_place (list_at text place) text place (mark_bytes + list_count text place);
    }

-- A list of these numbers: 0 past the last.
abbrev pub list_of : List ℕ → RowList
list_of given = record { rows = given ++ replicate (list_limit - length given) 0; count = length given }

-- The numbers that are said: none where there is no list.
abbrev pub rows_said : LineReply → List ℕ
rows_said at_end = []
rows_said (good_line numbers) = numbers
rows_said (bad_line fault) = []

-- An answer that is right for a text and a place: it says what reading a list line there gives, and a list that it found is of these numbers alone.
pub record ReadsList (text : List ℕ) (place : ℕ) (read : Code.Read RowList) : Type 0 where
  pub said : read_said numbers_of read ≡ read_list text place
  pub list : (list : RowList) → read.found ≡ Some (Ok list) → list ≡ list_of (rows_said (read_list text place).said)
