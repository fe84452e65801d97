-- Hexadecimal digits in bytes (document 01, "Lines from the board": "Hexadecimal, capitals only").
use Rattle.std.specs.Prelude.{Bool, cond, ◌&&◌, ◌||◌, List, [], ◌∷◌, ◌++◌, ◌≡◌, ℕ, zero, suc, ◌+◌, ◌-◌, ◌*◌, ◌/◌, ◌%◌, leb, ltb, length, get_or, take, drop}

-- The byte at a place. A missing one reads as 0, which is neither a digit nor a line feed.
abbrev pub byte_at : List ℕ → ℕ → ℕ
byte_at text place = get_or text place 0

-- "digits 0-9 A-F": the first and the last of each run.
abbrev pub byte0 : ℕ
byte0 = 48

abbrev pub byte9 : ℕ
byte9 = 57

abbrev pub byte_a : ℕ
byte_a = 65

abbrev pub byte_f : ℕ
byte_f = 70

-- "Hexadecimal", and the value of A.
abbrev pub base : ℕ
base = 16

abbrev pub value_a : ℕ
value_a = 10

-- A byte is two digits and has 256 values.
abbrev pub byte_digits : ℕ
byte_digits = 2

abbrev pub byte_values : ℕ
byte_values = 256

unfoldable pub is_digit : ℕ → Bool
is_digit byte = (leb byte0 byte && leb byte byte9) || (leb byte_a byte && leb byte byte_f)

-- The value of a digit, 0 of any other byte.
unfoldable pub digit_value : ℕ → ℕ
digit_value byte = cond (is_digit byte) (cond (leb byte byte9) (byte - byte0) (byte - byte_a + value_a)) 0

-- How many of the n bytes at a place are digits, before the first that is not or is missing.
unfoldable pub digits_at : List ℕ → ℕ → ℕ → ℕ
digits_at text place zero = 0
digits_at text place (suc n) = cond (is_digit (byte_at text place)) (suc (digits_at text (suc place) n)) 0

-- The value of the n digits at a place.
unfoldable pub hex_at : List ℕ → ℕ → ℕ → ℕ
hex_at text place zero = 0
hex_at text place (suc n) = hex_at text place n * base + digit_value (byte_at text (place + n))

-- The digit of a value below 16, and the n low digits of any value.
unfoldable pub digit_byte : ℕ → ℕ
digit_byte value = cond (ltb value value_a) (byte0 + value) (byte_a + (value - value_a))

unfoldable pub digits : ℕ → ℕ → List ℕ
digits zero value = []
digits (suc n) value = digits n (value / base) ++ (digit_byte (value % base) ∷ [])

-- The bytes at a place, over those that are there; every other byte stays.
abbrev pub overwritten : List ℕ → ℕ → List ℕ → List ℕ
overwritten out place bytes = take place out ++ (bytes ++ drop (place + length bytes) out)

-- Digits are written where there is room for them; otherwise nothing is.
pub record DigitsWritten (out : List ℕ) (place n value : ℕ) (done : Bool) (after : List ℕ) : Type 0 where
  pub said : done ≡ leb (place + n) (length out)
  pub bytes : after ≡ cond (leb (place + n) (length out)) (overwritten out place (digits n value)) out
