-- The parts of a line's digits say of the line what they say themselves: its data's sum, its sum byte, its numbers.
use mathlib.Core.Bool.{true, cond}
use mathlib.Core.List.{List}
use mathlib.Core.Path.{◌≡◌, sym, ap, ◌∙◌}
use Prim.Native.Nat.{ℕ, ◌+◌, ◌-◌, ◌*◌, ◌/◌, ◌%◌, ◌≤◌, ◌<◌}
use native.Mathlib.Omega.{arith}
use borrow.Author.Tests.{lt-leb}
use lib.Dec.{eqb}
use lib.ListN.{length, take, drop, replicate, length-drop}
use lib.Seq.{get_or-take, get_or-drop, length-take-le}
use Rattle.std.specs.Prelude.{Some, Ok, Err}
use Rattle.refusals.specs.declared.refusal.Refusal.TheVariants.{BadSum}
use Rattle.lines.specs.Digits.{byte_at, byte_digits, byte_values, hex_at}
use Rattle.lines.specs.Line.{right_at, sum_at, digits_of, line_at}
use Rattle.lines.specs.Read.{bytes_of, numbers_read}
use Rattle.lines.specs.ListLine.{mark_bytes, rows_at}
use Rattle.lines.proofs.LineLaws.{told-within}
use Rattle.lines.proofs.AgreeLaws.{bytes_of_ones, numbers_shift, hex_agree, sum_agree, numbers_agree}

module _ (text front back : List ℕ) (n : ℕ)
    (first : front ≡ take (byte_digits * n) (take (digits_of n) text)) (last : back ≡ drop (byte_digits * n) (take (digits_of n) text)) where
  in-front : (i : ℕ) → i < byte_digits * n → byte_at text (0 + i) ≡ byte_at front i
  in-front i below =
      let start : 0 + i ≡ i = omega arith in
      rw (start, first) (sym (get_or-take (byte_digits * n) (take (digits_of n) text) i 0 below ∙ get_or-take (digits_of n) text i 0 (omega arith)))

  in-back : (i : ℕ) → i < byte_digits → byte_at text (byte_digits * n + i) ≡ byte_at back i
  in-back i below =
      rw last (sym (get_or-drop (byte_digits * n) (take (digits_of n) text) i 0 ∙ get_or-take (digits_of n) text (byte_digits * n + i) 0 (omega arith)))

  -- Digits and a line feed are judged by the sum of the front and the value of the back.
  pub line_judged : (sum value : ℕ) → eqb (right_at text 0 (digits_of n)) (digits_of n + 1) ≡ true
      → sum ≡ sum_at front 0 (length front / byte_digits) → value ≡ hex_at back 0 (length back)
      → line_at text 0 n ≡ cond (eqb (sum % byte_values) value) (Some (Ok tt)) (Some (Err BadSum))
  unfolding line_at
  line_judged sum value right summed valued =
      let within : digits_of n < length text = told-within text (digits_of n) right in
      let whole : length (take (digits_of n) text) ≡ digits_of n = length-take-le (digits_of n) text (omega arith) in
      let front-size : length front ≡ byte_digits * n = ap length first ∙ length-take-le (byte_digits * n) (take (digits_of n) text) (omega arith) in
      let back-size : length back ≡ length (take (digits_of n) text) - byte_digits * n =
      ap length last ∙ length-drop (byte_digits * n) (take (digits_of n) text) in
      let two : length back ≡ byte_digits = omega arith in
      let count : length front / byte_digits ≡ n = omega arith in
      let front-sum : sum_at text 0 n ≡ sum = sum_agree text front 0 (byte_digits * n) in-front n (omega arith) ∙ sym (rw count at summed) in
      let from : 0 + byte_digits * n ≡ byte_digits * n + 0 = omega arith in
      let back-value : hex_at text (byte_digits * n + 0) byte_digits ≡ value =
      hex_agree text back (byte_digits * n) byte_digits in-back 0 byte_digits (omega arith) ∙ sym (rw two at valued) in
      rw (lt-leb (length text) 0 (omega arith), right, front-sum, from, back-value)

-- A number of a line's digits, some of them from one on.
pub part_value : (text digits : List ℕ) (size from n value : ℕ) → digits ≡ take size text → length digits ≡ size → from + n ≤ size
    → value ≡ hex_at (take n (drop from digits)) 0 (length (take n (drop from digits))) → value ≡ hex_at text from n
part_value text digits size from n value is whole within valued =
    let rest : length (drop from digits) ≡ length digits - from = length-drop from digits in
    let many : length (take n (drop from digits)) ≡ n = length-take-le n (drop from digits) (omega arith) in
    let start : from + 0 ≡ from = omega arith in
    rw many at valued ∙ sym (rw start at (hex_agree text (take n (drop from digits)) from n same 0 n (omega arith)))
  where
    same : (i : ℕ) → i < n → byte_at text (from + i) ≡ byte_at (take n (drop from digits)) i
    same i below =
        rw is
        (sym (get_or-take n (drop from (take size text)) i 0 below
        ∙ get_or-drop from (take size text) i 0
        ∙ get_or-take size text (from + i) 0 (omega arith)))

-- The row numbers between the mark and the sum.
module _ (text digits : List ℕ) (count : ℕ)
    (is : digits ≡ take (digits_of (mark_bytes + count)) text) (whole : length digits ≡ digits_of (mark_bytes + count)) where
  abbrev pub between : List ℕ
  between = take (length digits - byte_digits - byte_digits) (drop byte_digits digits)

  pub between-size : length between ≡ byte_digits * count
  between-size =
      let rest : length (drop byte_digits digits) ≡ length digits - byte_digits = length-drop byte_digits digits in
      length-take-le (length digits - byte_digits - byte_digits) (drop byte_digits digits) (omega arith) ∙ omega arith

  same-between : (i : ℕ) → i < byte_digits * count → byte_at text (byte_digits + i) ≡ byte_at between i
  same-between i below =
      let size : length digits ≡ digits_of (mark_bytes + count) = whole in
      sym (get_or-take (length digits - byte_digits - byte_digits) (drop byte_digits digits) i 0 (omega arith)
      ∙ get_or-drop byte_digits digits i 0
      ∙ rw is (get_or-take (digits_of (mark_bytes + count)) text (byte_digits + i) 0 (omega arith)))

  pub rows-between : numbers_read between 0 0 (replicate (length between / byte_digits) 1) ≡ rows_at text 0 count
  rows-between =
      let size : length between ≡ byte_digits * count = between-size in
      let many : length between / byte_digits ≡ count = omega arith in
      let ones : bytes_of (replicate count 1) ≡ count = bytes_of_ones count in
      rw many
      (sym (numbers_agree text between byte_digits (byte_digits * count) same-between 0 (replicate count 1) (omega arith))
      ∙ numbers_shift text 0 byte_digits 0 (replicate count 1))
