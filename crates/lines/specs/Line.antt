-- The one shape of a line: n data bytes as digits, a sum byte, a line feed (document 01, "Lines from the board" and "Refusal numbers").
use Rattle.std.specs.Prelude.{cond, ◌&&◌, List, [], ◌∷◌, ℕ, zero, suc, ◌+◌, ◌*◌, ◌%◌, leb, eqb, length, drop, Option, Some, None, Result, Ok, Err}
use Rattle.refusals.specs.declared.refusal.Refusal.{Refusal}
use Rattle.refusals.specs.declared.refusal.Refusal.TheVariants as refusal
use Rattle.lines.specs.Digits.{byte_at, byte_digits, byte_values, digits_at, hex_at}

abbrev pub line_feed : ℕ
line_feed = 10

-- How far n digits and a line feed stand at a place: n + 1 where they all do, otherwise the offset of the first byte that is not as required.
-- A missing byte is not as required at its place.
unfoldable pub right_at : List ℕ → ℕ → ℕ → ℕ
right_at text place n =
    cond (eqb (digits_at text place n) n && eqb (byte_at text (place + n)) line_feed) (n + 1) (digits_at text place n)

-- The sum of the n bytes whose digits begin at a place.
unfoldable pub sum_at : List ℕ → ℕ → ℕ → ℕ
sum_at text place zero = 0
sum_at text place (suc n) = sum_at text place n + hex_at text (place + byte_digits * n) byte_digits

-- How many bytes up to and with the first line feed; all where there is none.
unfoldable pub past_first : List ℕ → ℕ
past_first [] = 0
past_first (byte ∷ bytes) = cond (eqb byte line_feed) 1 (suc (past_first bytes))

-- "it moves past the first line feed at or after it, or to the end if there is none".
unfoldable pub past_line_feed : List ℕ → ℕ → ℕ
past_line_feed text place = place + past_first (drop place text)

-- The digits of n data bytes and of the sum byte.
abbrev pub digits_of : ℕ → ℕ
digits_of n = byte_digits * n + byte_digits

-- Nothing at the end; a line that is right; or its refusal.
abbrev pub Found : Type 0
Found = Option (Result Unit Refusal)

-- What stands at a place. 8: "place before the end, but no 14 digits 0-9 A-F and line feed there"; 9: "line well formed, its sum wrong".
unfoldable pub line_at : List ℕ → ℕ → ℕ → Found
line_at text place n =
    cond (leb (length text) place) None
    (cond (eqb (right_at text place (digits_of n)) (digits_of n + 1))
    (cond (eqb (sum_at text place n % byte_values) (hex_at text (place + byte_digits * n) byte_digits)) (Some (Ok tt)) (Some (Err refusal.BadSum)))
    (Some (Err refusal.BadLine)))

-- "A place at or past the end answers "end", place unchanged. After a good line the place moves 15. After 8 or 9 it moves past the first line feed".
abbrev pub next_place : Found → List ℕ → ℕ → ℕ → ℕ
next_place None text place n = place
next_place (Some (Ok good)) text place n = place + (digits_of n + 1)
next_place (Some (Err refusal)) text place n = past_line_feed text place
