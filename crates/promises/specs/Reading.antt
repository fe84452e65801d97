-- Demand 1 for reading lines: 8 and 9 "exactly under the listed conditions", "end" at or past the end, and where the place moves. The conditions are
-- propositions in document 01's words, apart from the tests that the contracts cite (`right_at`, `line_at`).
use Rattle.std.specs.Prelude.{List, [], ◌∷◌, ◌↔◌, ◌≡◌, ℕ, ◌+◌, ◌*◌, ◌%◌, ◌≤◌, ◌<◌, length, get_or}
use Rattle.refusals.specs.Refusals.{Refused, refused}
use Rattle.refusals.specs.declared.refusal.Refusal.TheVariants.{BadLine, BadSum}
use Rattle.row_list.specs.RowList.{list_limit}
use Rattle.lines.specs.Digits.{byte_at, byte0, byte9, byte_a, byte_f, byte_digits, byte_values, hex_at}
use Rattle.lines.specs.Line.{line_feed, sum_at, digits_of}
use Rattle.lines.specs.Read.{at_end, good_line, bad_line, Read}
use Rattle.lines.specs.Frame.{read_frame}
use Rattle.lines.specs.ListLine.{read_list}
use Rattle.lines.specs.Rule.{read_rule}

-- "digits 0-9 A-F".
pub data Digit (byte : ℕ) : Type 0 where
  number : byte0 ≤ byte → byte ≤ byte9 → Digit byte
  letter : byte_a ≤ byte → byte ≤ byte_f → Digit byte

-- A line has data bytes, then "sum (2) of the .. bytes modulo 256, line feed": "14 digits 0-9 A-F and line feed there" for the six bytes of a frame.
-- A missing byte is neither.
pub record WellFormed (bytes : ℕ) (text : List ℕ) (place : ℕ) : Type 0 where
  pub digits : (i : ℕ) → i < digits_of bytes → Digit (byte_at text (place + i))
  pub fed : byte_at text (place + digits_of bytes) ≡ line_feed

-- The sum stands after the data bytes.
abbrev pub SumRight : ℕ → List ℕ → ℕ → Type 0
SumRight bytes text place = sum_at text place bytes % byte_values ≡ hex_at text (place + byte_digits * bytes) byte_digits

-- 8: "place before the end, but no 14 digits 0-9 A-F and line feed there"; 9: "line well formed, its sum wrong".
pub data LineRefused (bytes : ℕ) (text : List ℕ) (place : ℕ) : Refused → Type 0 where
  eight : place < length text → ¬ WellFormed bytes text place → LineRefused bytes text place (refused BadLine)
  nine : WellFormed bytes text place → ¬ SumRight bytes text place → LineRefused bytes text place (refused BadSum)

-- A good line, and the numbers that it shows.
pub record LineGood (bytes : ℕ) (shows : List ℕ → ℕ → List ℕ) (text : List ℕ) (place : ℕ) (given : List ℕ) : Type 0 where
  pub formed : WellFormed bytes text place
  pub sum : SumRight bytes text place
  pub shown : given ≡ shows text place

-- What is said of a line, if and only if: `Wrong` is what is refused, `Good` is a good line and its numbers.
pub record SaidExactly (read : List ℕ → ℕ → Read) (Wrong : List ℕ → ℕ → Refused → Type 0) (Good : List ℕ → ℕ → List ℕ → Type 0) : Type 0 where
  pub ends : (text : List ℕ) (place : ℕ) → ((read text place).said ≡ at_end) ↔ (length text ≤ place)
  pub refuses : (text : List ℕ) (place : ℕ) (fault : Refused) → ((read text place).said ≡ bad_line fault) ↔ Wrong text place fault
  pub reads : (text : List ℕ) (place : ℕ) (given : List ℕ) → ((read text place).said ≡ good_line given) ↔ Good text place given

-- "counter (4 digits), mask (8), sum (2) of the six bytes ..: 15 bytes".
abbrev pub data_bytes : ℕ
data_bytes = 6

abbrev pub frame_bytes : ℕ
frame_bytes = 15

abbrev pub counter_and_mask : List ℕ → ℕ → List ℕ
counter_and_mask text place = hex_at text place 4 ∷ hex_at text (place + 4) 8 ∷ []

-- "kind 2 digits, x 2, y 2, a 8, b 8, sum of those eleven bytes 2".
abbrev pub rule_bytes : ℕ
rule_bytes = 11

abbrev pub rule_numbers : List ℕ → ℕ → List ℕ
rule_numbers text place =
    hex_at text place 2 ∷ hex_at text (place + 2) 2 ∷ hex_at text (place + 4) 2 ∷ hex_at text (place + 6) 8 ∷ hex_at text (place + 14) 8 ∷ []

-- Document 02, E4: "AA, with which no rule line may start".
pub record Marked (text : List ℕ) (place : ℕ) : Type 0 where
  pub first : byte_at text place ≡ byte_a
  pub second : byte_at text (place + 1) ≡ byte_a

-- A rule line that starts with AA is refused 8, any other as a line of its bytes.
pub data RuleRefused (text : List ℕ) (place : ℕ) : Refused → Type 0 where
  marked : Marked text place → RuleRefused text place (refused BadLine)
  unmarked : (fault : Refused) → ¬ Marked text place → LineRefused rule_bytes text place fault → RuleRefused text place fault

pub record RuleGood (text : List ℕ) (place : ℕ) (given : List ℕ) : Type 0 where
  pub unmarked : ¬ Marked text place
  pub line : LineGood rule_bytes rule_numbers text place given

-- A list line: "AA, .. 1 to 16 two-digit row numbers, the sum of all these bytes modulo 256". AA is one of the data bytes.
abbrev pub list_bytes : ℕ → ℕ
list_bytes count = 1 + count

pub record ListFormed (count : ℕ) (text : List ℕ) (place : ℕ) : Type 0 where
  pub least : 1 ≤ count
  pub most : count ≤ list_limit
  pub marked : Marked text place
  pub line : WellFormed (list_bytes count) text place

-- "A list line of bad form or sum".
pub data ListRefused (text : List ℕ) (place : ℕ) : Refused → Type 0 where
  bad_form : place < length text → ((count : ℕ) → ¬ ListFormed count text place) → ListRefused text place (refused BadLine)
  bad_sum : (count : ℕ) → ListFormed count text place → ¬ SumRight (list_bytes count) text place → ListRefused text place (refused BadSum)

-- A good list line and its row numbers, which need not rise.
pub record ListGood (text : List ℕ) (place : ℕ) (given : List ℕ) : Type 0 where
  pub formed : ListFormed (length given) text place
  pub sum : SumRight (list_bytes (length given)) text place
  pub shown : (k : ℕ) → k < length given → get_or given k 0 ≡ hex_at text (place + (byte_digits + byte_digits * k)) byte_digits

pub record ReadRefusedExactly : Type 0 where
  pub frame : SaidExactly read_frame (LineRefused data_bytes) (LineGood data_bytes counter_and_mask)
  pub rule : SaidExactly read_rule RuleRefused RuleGood
  pub list : SaidExactly read_list ListRefused ListGood

-- "past the first line feed at or after it, or to the end if there is none".
abbrev pub NoLineFeed : List ℕ → ℕ → ℕ → Type 0
NoLineFeed text from to = (i : ℕ) → from ≤ i → i < to → ¬ (byte_at text i ≡ line_feed)

pub data Past (text : List ℕ) (place next : ℕ) : Type 0 where
  first : (feed : ℕ) → place ≤ feed → byte_at text feed ≡ line_feed → NoLineFeed text place feed → next ≡ feed + 1 → Past text place next
  none : NoLineFeed text place (length text) → next ≡ length text → Past text place next

-- "A place at or past the end answers 'end', place unchanged. After a good line the place moves 15. After 8 or 9 it moves past the first line
-- feed ..": 15 for a frame, and for any line as many bytes as it has.
pub record PlaceMoves (read : List ℕ → ℕ → Read) (size : List ℕ → ℕ) (text : List ℕ) (place : ℕ) : Type 0 where
  pub ended : (read text place).said ≡ at_end → (read text place).next ≡ place
  pub good : (given : List ℕ) → (read text place).said ≡ good_line given → (read text place).next ≡ place + size given
  pub refused : (fault : Refused) → (read text place).said ≡ bad_line fault → Past text place (read text place).next

-- The digits of the data bytes and of the sum, and the line feed.
abbrev pub line_bytes : ℕ → ℕ
line_bytes bytes = digits_of bytes + 1

pub record PlacesMove (text : List ℕ) (place : ℕ) : Type 0 where
  pub frame : PlaceMoves read_frame (λ given. frame_bytes) text place
  pub rule : PlaceMoves read_rule (λ given. line_bytes rule_bytes) text place
  pub list : PlaceMoves read_list (λ given. line_bytes (list_bytes (length given))) text place
