-- Two digits tell the row: each digit is read as its value, and the row limit is no more than the values of two.
use mathlib.Core.Path.{◌≡◌}
use Prim.Native.Nat.{ℕ, ◌+◌, ◌*◌, ◌/◌, ◌%◌, ◌<◌}
use native.Mathlib.Omega.{arith}
use Rattle.lines.specs.Digits.{base, byte_values, digit_value, digit_byte, digits, hex_at}
use Rattle.text.specs.Replies.{reply_line}
use Rattle.lines.proofs.DigitLaws.{digit_back}
use Rattle.text_promises.specs.RowNumbers.{TwoDigitsTellTheRow}

two_digits : (value : ℕ) → value < byte_values
    → (0 * base + digit_value (digit_byte (value / base % base))) * base + digit_value (digit_byte (value % base)) ≡ value
two_digits value below = rw (digit_back (value / base % base) (omega arith), digit_back (value % base) (omega arith)) (omega arith)

pub two_digits_tell_the_row : TwoDigitsTellTheRow
unfolding digits hex_at reply_line
two_digits_tell_the_row =
    record { alone = λ row lower. two_digits row (omega arith); refused = λ number row lower. two_digits row (omega arith) }
