-- Writing digits from the back: what is left, written over what is there, stays the same from turn to turn.
use mathlib.Core.Bool.{true}
use mathlib.Core.List.{List, ◌++◌, append_assoc}
use mathlib.Core.Path.{◌≡◌, refl, sym, ◌∙◌}
use Prim.Native.Nat.{ℕ, zero, suc, ◌+◌, ◌/◌, ◌%◌, ◌≤◌, ◌<◌}
use native.Mathlib.Omega.{arith}
use borrow.Author.Tests.{le-leb}
use lib.Dec.{leb}
use lib.ListN.{length, take, drop, set, length-append, length-set}
use lib.Seq.{drop-cons, take-set-le, drop-set-lt, get_or-set_same}
use Rattle.lines.specs.Digits.{digits, digit_byte, overwritten, DigitsWritten}
use Rattle.lines.proofs.OverLaws.{over_none}

pub length_digits : (n value : ℕ) → length (digits n value) ≡ n
unfolding digits
length_digits zero value = refl
length_digits (suc n) value =
    let before : length (digits n (value / 16)) ≡ n = length_digits n (value / 16) in
    rw length-append (omega arith)

-- The n digits that are left of a value, over what is there.
abbrev pub left_over : List ℕ → ℕ → ℕ → ℕ → List ℕ
left_over out place n value = take place out ++ (digits n value ++ drop (place + n) out)

module _ (out : List ℕ) (place n value : ℕ) where
  left_over_lem : left_over out place n value ≡ overwritten out place (digits n value)
  left_over_lem = rw length_digits

  -- One turn: the last digit is stored, and one fewer is left.
  pub store_digit : place + n < length out
      → left_over (set out (place + n) (digit_byte (value % 16))) place n (value / 16) ≡ left_over out place (suc n) value
  unfolding digits
  store_digit within =
      let on : place + suc n ≡ suc (place + n) = omega arith in
      let inside : place + n < length (set out (place + n) (digit_byte (value % 16))) = rw length-set within in
      rw (
        take-set-le place out (place + n) (digit_byte (value % 16)) (omega arith),
        drop-cons (set out (place + n) (digit_byte (value % 16))) (place + n) 0 inside,
        get_or-set_same out (place + n) (digit_byte (value % 16)) 0 within,
        drop-set-lt (suc (place + n)) out (place + n) (digit_byte (value % 16)) (omega arith),
        on,
        append_assoc,
      )

-- Nothing is left: the bytes are as they should be.
none_left : (out : List ℕ) (place value : ℕ) → left_over out place 0 value ≡ out
unfolding digits
none_left out place value = over_none out place

-- What the loop keeps says at its end that the digits are written.
pub all_written : (out after : List ℕ) (place n value left rest : ℕ) → place + n ≤ length out → left ≡ 0
    → left_over after place left rest ≡ left_over out place n value → DigitsWritten out place n value true after
all_written out after place n value left rest fits none kept =
    let room : leb (place + n) (length out) ≡ true = le-leb _ _ fits in
    record {
      said = sym room;
      bytes = rw room (sym (none_left after place rest) ∙ (rw none at kept) ∙ left_over_lem out place n value);
    }
