-- What reading a line gives, for every format: its numbers by their widths in bytes.
use Rattle.std.specs.Prelude.{List, [], ◌∷◌, ℕ, ◌+◌, ◌*◌, Option, Some, None, Result, Ok, Err}
use Rattle.refusals.specs.Refusals as refusals
use Rattle.refusals.specs.Refusals.{refused}
use Rattle.refusals.specs.declared.refusal.Refusal.{Refusal}
use Rattle.lines.specs.declared.read.Read as Code
use Rattle.lines.specs.Digits.{byte_digits, hex_at}
use Rattle.lines.specs.Line.{Found, line_at, next_place}

-- The end, the numbers of a line, or a refusal with the paper's number.
pub data LineReply : Type 0 where
  at_end : LineReply
  good_line : List ℕ → LineReply
  bad_line : refusals.Refused → LineReply

-- "number; next place".
pub record Read : Type 0 where
  pub said : LineReply
  pub next : ℕ

-- How many bytes the numbers have.
abbrev pub bytes_of : List ℕ → ℕ
bytes_of [] = 0
bytes_of (width ∷ widths) = width + bytes_of widths

-- The numbers of a line at a place, from an offset on.
abbrev pub numbers_read : List ℕ → ℕ → ℕ → List ℕ → List ℕ
numbers_read text place offset [] = []
numbers_read text place offset (width ∷ widths) =
    hex_at text (place + offset) (byte_digits * width) ∷ numbers_read text place (offset + byte_digits * width) widths

-- What is said of a line, given its numbers.
abbrev pub line_reply : Found → List ℕ → LineReply
line_reply None given = at_end
line_reply (Some (Ok good)) given = good_line given
line_reply (Some (Err refusal)) given = bad_line (refused refusal)

-- Reading a line whose numbers have these widths: what is said, and the next place.
abbrev pub read_line : List ℕ → List ℕ → ℕ → Read
read_line widths text place =
    record {
      said = line_reply (line_at text place (bytes_of widths)) (numbers_read text place 0 widths);
      next = next_place (line_at text place (bytes_of widths)) text place (bytes_of widths);
    }

-- What the code's answer says, in the paper's numbers, by the numbers of the line that it found.
abbrev pub found_said : {A : Type 0} → (A → List ℕ) → Option (Result A Refusal) → LineReply
found_said numbers None = at_end
found_said numbers (Some (Ok line)) = good_line (numbers line)
found_said numbers (Some (Err refusal)) = bad_line (refused refusal)

abbrev pub read_said : {A : Type 0} → (A → List ℕ) → Code.Read A → Read
read_said numbers read = record { said = found_said numbers read.found; next = read.next }
