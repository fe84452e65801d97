-- Row numbers in two digits each: those of a rule line and of a list, "row or 00" of a refusal, and the line of a bad rule. They tell every row that a
-- table may have.
use Rattle.std.specs.Prelude.{◌≡◌, ℕ, ◌+◌, ◌<◌}
use Rattle.rules.specs.Limits.{row_limit}
use Rattle.lines.specs.Digits.{byte_digits, digits, hex_at}
use Rattle.text.specs.Replies.{refusal_line}

-- "EE, number 2 digits, row or 00": the row stands behind these two.
abbrev pub row_place : ℕ
row_place = byte_digits + byte_digits

-- The digits of a row's number are read as that number, alone and in a refusal as it is written.
pub record TwoDigitsTellTheRow : Type 0 where
  pub alone : (row : ℕ) → row < row_limit → hex_at (digits byte_digits row) 0 byte_digits ≡ row
  pub refused : (number row : ℕ) → row < row_limit → hex_at (refusal_line number row) row_place byte_digits ≡ row
