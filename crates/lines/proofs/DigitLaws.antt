-- Which bytes are digits, how large their values are, and one turn of counting them.
use mathlib.Core.Bool.{true, false}
use mathlib.Core.List.{List, [], ◌∷◌}
use mathlib.Core.Path.{◌≡◌, refl, sym, ap, ◌∙◌}
use Prim.Native.Nat.{ℕ, zero, suc, ◌+◌, ◌-◌, ◌*◌, ◌^◌, ◌≤◌, ◌<◌}
use native.Mathlib.Nat.{pow-suc, pow-le-pow_right, zero-add}
use native.Mathlib.Numerals.{add-one, one-add}
use native.Mathlib.Omega.{arith}
use borrow.Author.Tests.{ltb-true, ltb-false, leb-true, leb-false, le-leb, lt-leb}
use lib.Dec.{leb, ltb, lit<}
use lib.ListN.{length, take}
use Rattle.std.specs.List.{take_while}
use Rattle.lines.specs.Digits.{byte_at, byte0, byte9, byte_a, byte_f, base, value_a, is_digit, digit_value, digit_byte, digits_at, hex_at}
use Rattle.meaning.proofs.Truths.{no_truth}
use Rattle.meaning.proofs.Truths.{by_test}

module _ (byte : ℕ) where
  digit_below : byte < byte0 → is_digit byte ≡ false
  unfolding is_digit
  digit_below h = simp (lt-leb byte0 byte h, lt-leb byte_a byte (omega arith))

  digit_number : byte0 ≤ byte → byte ≤ byte9 → is_digit byte ≡ true
  unfolding is_digit
  digit_number low high = simp (le-leb byte0 byte low, le-leb byte byte9 high)

  digit_between : byte9 < byte → byte < byte_a → is_digit byte ≡ false
  unfolding is_digit
  digit_between low high = simp (le-leb byte0 byte (omega arith), lt-leb byte byte9 low, lt-leb byte_a byte high)

  digit_letter : byte_a ≤ byte → is_digit byte ≡ leb byte byte_f
  unfolding is_digit
  digit_letter low = simp (le-leb byte0 byte (omega arith), lt-leb byte byte9 (omega arith), le-leb byte_a byte low)

-- Where a digit lies.
pub record DigitRange (byte : ℕ) : Type 0 where
  pub low : byte0 ≤ byte
  pub high : byte ≤ byte_f
  pub letter : byte9 < byte → byte_a ≤ byte

pub digit_range : (byte : ℕ) → is_digit byte ≡ true → DigitRange byte
digit_range byte is =
    record {
      low = by_test (leb byte0 byte) (leb-true byte0 byte) (λ no. absurd (no_truth (sym (digit_below byte (leb-false byte0 byte no)) ∙ is)));
      high =
          by_test (leb byte byte_f) (leb-true byte byte_f)
          (λ no. let over : byte_f < byte = leb-false byte byte_f no in absurd (no_truth (sym (digit_letter byte (omega arith) ∙ no) ∙ is)));
      letter =
          λ above. by_test (leb byte_a byte) (leb-true byte_a byte)
          (λ no. absurd (no_truth (sym (digit_between byte above (leb-false byte_a byte no)) ∙ is)));
    }

pub digit_value-below : (byte : ℕ) → digit_value byte < 16
unfolding digit_value
digit_value-below byte =
    by_test (is_digit byte)
    (λ is. let range : DigitRange byte = digit_range byte is in rw is
    (by_test (leb byte byte9)
    (λ number. let high : byte ≤ byte9 = leb-true byte byte9 number in rw number (omega arith))
    (λ letter. let from : byte_a ≤ byte = range.letter (leb-false byte byte9 letter) in rw letter (omega arith))))
    (λ not. rw not (lit< tt))

-- The digit of a value has that value.
pub digit_back : (value : ℕ) → value < base → digit_value (digit_byte value) ≡ value
unfolding digit_value digit_byte
digit_back value below =
    by_test (ltb value value_a)
    (λ number. let low : value < value_a = ltb-true value value_a number in rw
    (number, digit_number (byte0 + value) (omega arith) (omega arith), le-leb (byte0 + value) byte9 (omega arith)) (omega arith))
    (λ letter. let high : value_a ≤ value = ltb-false value value_a letter in rw (
      letter,
      digit_letter (byte_a + (value - value_a)) (omega arith),
      le-leb (byte_a + (value - value_a)) byte_f (omega arith),
      lt-leb (byte_a + (value - value_a)) byte9 (omega arith),
    ) (omega arith))

pub hex_at-below : (text : List ℕ) (place n : ℕ) → hex_at text place n < 16 ^ n
unfolding hex_at
hex_at-below text place zero = lit< tt
hex_at-below text place (suc n) =
    let before : hex_at text place n < 16 ^ n = hex_at-below text place n in
    let value : digit_value (byte_at text (place + n)) < 16 = digit_value-below (byte_at text (place + n)) in
    rw pow-suc (omega arith)

-- One digit more.
pub hex_more : (text : List ℕ) (n value digit : ℕ) → value ≡ hex_at text 0 n → digit ≡ digit_value (byte_at text n)
    → value * base + digit ≡ hex_at text 0 (n + 1)
unfolding hex_at
hex_more text n value digit before last = rw (add-one, zero-add, ← before, ← last)

-- Fewer than 16 digits leave room for one more.
pub hex_at-room : (text : List ℕ) (n : ℕ) → n ≤ 15 → hex_at text 0 n < 2 ^ 60
hex_at-room text n fewer =
    let top : 16 ^ n ≤ 16 ^ 15 = pow-le-pow_right (lit< tt) fewer in
    omega (arith, hex_at-below text 0 n)

-- Counted from the next place on is counted in what follows the first byte.
digits_shift : (byte : ℕ) (bytes : List ℕ) (place n : ℕ) → digits_at (byte ∷ bytes) (suc place) n ≡ digits_at bytes place n
unfolding digits_at
digits_shift byte bytes place zero = refl
digits_shift byte bytes place (suc n) = rw (digits_shift byte bytes (suc place) n)

digits_none : (place n : ℕ) → digits_at [] place n ≡ 0
unfolding digits_at is_digit
digits_none place zero = refl
digits_none place (suc n) = refl

-- The digits that are taken from the front of n bytes are those counted.
pub digits_taken : (text : List ℕ) (n : ℕ) → length (take_while is_digit (take n text)) ≡ digits_at text 0 n
unfolding digits_at
digits_taken text zero = refl
digits_taken [] (suc n) = sym (digits_none 0 (suc n))
digits_taken (byte ∷ bytes) (suc n) =
    by_test (is_digit byte)
    (λ is. rw (is, one-add) (ap suc (digits_taken bytes n ∙ sym (digits_shift byte bytes 0 n))))
    (λ not. rw not)

pub digits_at-most : (text : List ℕ) (place n : ℕ) → digits_at text place n ≤ n
unfolding digits_at
digits_at-most text place zero = omega arith
digits_at-most text place (suc n) =
    let rest : digits_at text (suc place) n ≤ n = digits_at-most text (suc place) n in
    by_test (is_digit (byte_at text place)) (λ is. rw is (omega arith)) (λ not. rw not (omega arith))
