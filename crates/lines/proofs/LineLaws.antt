-- One turn of looking for a line feed, how large a sum is, and the place after any line.
use native.Mathlib.Nat.{zero-add}
use mathlib.Core.Bool.{and-true, Bool, true, false, cond, ◌&&◌}
use mathlib.Core.List.{List, [], ◌∷◌}
use mathlib.Core.Path.{◌≡◌, refl, sym, ◌∙◌}
use Prim.Native.Nat.{ℕ, zero, suc, ◌+◌, ◌*◌, ◌%◌, ◌≤◌, ◌<◌}
use native.Mathlib.Numerals.{one-add}
use native.Mathlib.Omega.{arith}
use borrow.Author.Tests.{eqb-true, eqb-false, eq-eqb, ne_eqb, leb-true, leb-false, lt-leb, lt-ltb, le-ltb, ltb-true, ltb-false}
use lib.Dec.{eqb, leb, ltb}
use lib.ListN.{length, drop_of_length-le, get_or-eq_default}
use lib.Seq.{drop-cons}
use Rattle.std.specs.List.{starts_with, position, position_or_len}
use Rattle.std.specs.Prelude.{Some, None}
use Rattle.lines.specs.Digits.{byte_at, is_digit, digits_at, hex_at}
use Rattle.lines.specs.Line.{line_feed, right_at, sum_at, past_first, past_line_feed, digits_of, line_at, next_place}
use Rattle.meaning.proofs.Truths.{and_left, and_right, and_false, no_truth}
use Rattle.meaning.proofs.Truths.{by_test}
use Rattle.lines.proofs.DigitLaws.{DigitRange, digit_range, hex_at-below, digits_at-most}

abbrev pub feeds : ℕ → Bool
feeds byte = eqb byte line_feed

-- Where the first line of so many bytes ends, given the place of a line feed, or how many bytes there are where there is none.
abbrev line_end : ℕ → ℕ → ℕ
line_end place size = cond (ltb place size) (place + 1) size

line_end-more : (place size : ℕ) → suc (line_end place size) ≡ line_end (suc place) (suc size)
line_end-more place size =
    by_test (ltb place size)
    (λ below. let less : place < size = ltb-true place size below in rw (below, lt-ltb (suc place) (suc size) (omega arith)) (omega arith))
    (λ past. let more : size ≤ place = ltb-false place size past in rw (past, le-ltb (suc place) (suc size) (omega arith)))

past_end-line : (bytes : List ℕ) → past_first bytes ≡ line_end (position_or_len feeds bytes) (length bytes)
unfolding past_first
past_end-line [] = refl
past_end-line (byte ∷ bytes) =
    by_test (feeds byte) (λ ends. rw (ends, lt-ltb 0 (suc (length bytes)) (omega arith)))
    (λ other. rw (other, one-add, past_end-line bytes) (line_end-more (position_or_len feeds bytes) (length bytes)))

line_end-Some : (place size at : ℕ) → Some at ≡ cond (ltb place size) (Some place) None → at + 1 ≡ line_end place size
line_end-Some place size at is =
    by_test (ltb place size)
    (λ below. let same : Some at ≡ Some place = rw below at is in rw below (cc))
    (λ past. let none : Some at ≡ None = rw past at is in absurd (cc))

line_end-None : (place size : ℕ) → None ≡ cond (ltb place size) (Some place) None → size ≡ line_end place size
line_end-None place size is =
    by_test (ltb place size)
    (λ below. let some : None ≡ Some place = rw below at is in absurd (cc))
    (λ past. rw past)

module _ (bytes : List ℕ) where
  pub line-found : (at : ℕ) → Some at ≡ position feeds bytes → at + 1 ≡ past_first bytes
  line-found at is = line_end-Some _ (length bytes) at is ∙ sym (past_end-line bytes)

  pub line-whole : None ≡ position feeds bytes → length bytes ≡ past_first bytes
  line-whole is = line_end-None (position_or_len feeds bytes) (length bytes) is ∙ sym (past_end-line bytes)

-- It has no more bytes than there are.
pub past-most : (bytes : List ℕ) → past_first bytes ≤ length bytes
unfolding past_first
past-most [] = omega arith
past-most (byte ∷ bytes) =
    let rest : past_first bytes ≤ length bytes = past-most bytes in
    by_test (eqb byte line_feed) (λ ends. rw ends (omega arith)) (λ other. rw other (omega arith))

module _ (text : List ℕ) (place : ℕ) where
  past-found : place < length text → byte_at text place ≡ line_feed → past_line_feed text place ≡ place + 1
  unfolding past_line_feed past_first
  past-found within is = rw (drop-cons text place 0 within) (rw (eq-eqb (byte_at text place) line_feed is))

  past-other : place < length text → (byte_at text place ≡ line_feed → ⊥) → past_line_feed text place ≡ past_line_feed text (place + 1)
  unfolding past_line_feed past_first
  past-other within other =
      let on : place + 1 ≡ suc place = omega arith in
      rw (drop-cons text place 0 within, on) (rw (ne_eqb (byte_at text place) line_feed other) (omega arith))

  pub past_end : length text ≤ place → past_line_feed text place ≡ place
  unfolding past_line_feed past_first
  past_end past = rw (drop_of_length-le text past) (omega arith)

pub sum_at-most : (text : List ℕ) (place n : ℕ) → sum_at text place n ≤ 255 * n
unfolding sum_at
sum_at-most text place zero = omega arith
sum_at-most text place (suc n) =
    let before : sum_at text place n ≤ 255 * n = sum_at-most text place n in
    let byte : hex_at text (place + 2 * n) 2 < 256 = hex_at-below text (place + 2 * n) 2 in
    omega arith

-- A byte that is not 0 is not missing.
present : (text : List ℕ) (place : ℕ) → 0 < byte_at text place → place < length text
present text place some =
    by_test (leb (length text) place)
    (λ past.
    let missing : byte_at text place ≡ 0 = get_or-eq_default text 0 (leb-true (length text) place past) in
    absurd (omega arith))
    (leb-false (length text) place)

-- Digits are no line feeds: the first line feed is the one after them.
past-digits : (text : List ℕ) (place n : ℕ)
    → digits_at text place n ≡ n → byte_at text (place + n) ≡ line_feed → past_line_feed text place ≡ place + (n + 1)
unfolding digits_at
past-digits text place zero all fed =
    let same : place + 0 ≡ place = omega arith in
    let feed : byte_at text place ≡ line_feed = rw same at fed in
    past-found text place (present text place (omega arith)) feed
past-digits text place (suc n) all fed =
    by_test (is_digit (byte_at text place))
    (λ is.
    let range : DigitRange (byte_at text place) = digit_range (byte_at text place) is in
    let more : suc (digits_at text (suc place) n) ≡ suc n = rw is at all in
    let rest : digits_at text (suc place) n ≡ n = omega arith in
    let on : place + 1 ≡ suc place = omega arith in
    let last : place + suc n ≡ suc place + n = omega arith in
    let feed : byte_at text (suc place + n) ≡ line_feed = rw last at fed in
    let after : past_line_feed text (suc place) ≡ suc place + (n + 1) = past-digits text (suc place) n rest feed in
    let first : past_line_feed text place ≡ past_line_feed text (place + 1) =
    past-other text place (present text place (omega arith)) (λ feed. omega arith) in
    first ∙ rw on (after ∙ omega arith))
    (λ not. let none : 0 ≡ suc n = rw not at all in absurd (omega arith))

pub past-right : (text : List ℕ) (place n : ℕ) → right_at text place n ≡ n + 1 → past_line_feed text place ≡ place + (n + 1)
unfolding right_at
past-right text place n right =
    by_test (eqb (digits_at text place n) n && eqb (byte_at text (place + n)) line_feed)
    (λ all.
    let digits : Bool = eqb (digits_at text place n) n in
    let fed : Bool = eqb (byte_at text (place + n)) line_feed in
    past-digits text place n (eqb-true _ _ (and_left digits fed all)) (eqb-true _ _ (and_right digits fed all)))
    (λ not.
    let fewer : digits_at text place n ≡ n + 1 = rw not at right in
    let most : digits_at text place n ≤ n = digits_at-most text place n in
    absurd (omega arith))

-- After any line, good or bad, the next place is past its first line feed: a text is its lines.
pub next_past : (text : List ℕ) (place n : ℕ) → place < length text → next_place (line_at text place n) text place n ≡ past_line_feed text place
unfolding line_at
next_past text place n within =
    rw (lt-leb (length text) place within)
    (by_test (eqb (right_at text place (digits_of n)) (digits_of n + 1))
    (λ right. rw right
    (by_test (eqb (sum_at text place n % 256) (hex_at text (place + 2 * n) 2))
    (λ sum. rw sum (sym (past-right text place (digits_of n) (eqb-true _ _ right))))
    (λ wrong. rw wrong)))
    (λ bad. rw bad))

eqb_turned : (a b : ℕ) → eqb a b ≡ eqb b a
eqb_turned a b =
    by_test (eqb a b) (λ is. is ∙ sym (eq-eqb b a (sym (eqb-true a b is)))) (λ not. not ∙ sym (ne_eqb b a (λ same. eqb-false a b not (sym same))))

-- A text begins with two bytes, where these are not 0.
pub begins_two : (text : List ℕ) (byte : ℕ) → 0 < byte
    → starts_with eqb text (byte ∷ byte ∷ []) ≡ (eqb (byte_at text 0) byte && eqb (byte_at text 1) byte)
begins_two [] byte some = sym (rw (ne_eqb 0 byte (λ same. omega arith)))
begins_two (first ∷ []) byte some =
    let none : eqb 0 byte ≡ false = ne_eqb 0 byte (λ same. omega arith) in
    and_false (eqb byte first) ∙ sym (rw none (and_false (eqb first byte)))
begins_two (first ∷ second ∷ text) byte some =
    rw (and-true (eqb byte second), eqb_turned byte first, eqb_turned byte second)

-- The tests of n digits and a line feed.
module _ (text : List ℕ) (n : ℕ) where
  abbrev told : Bool
  told = eqb (right_at text 0 n) (n + 1)

  pub told_short : (digits_at text 0 n ≡ n → ⊥) → told ≡ false
  unfolding right_at
  told_short short =
      let most : digits_at text 0 n ≤ n = digits_at-most text 0 n in
      rw (ne_eqb _ _ short) (ne_eqb _ _ (λ right. omega arith))

  pub told_fed : digits_at text 0 n ≡ n → told ≡ eqb (byte_at text n) line_feed
  unfolding right_at
  told_fed all =
      rw (eq-eqb _ _ all, zero-add)
      (by_test (eqb (byte_at text n) line_feed)
      (λ is. rw is (eq-eqb (n + 1) (n + 1) refl))
      (λ not. rw not (ne_eqb _ _ (λ right. omega arith))))

  -- They are there.
  pub told-within : told ≡ true → n < length text
  told-within is =
      by_test (eqb (digits_at text 0 n) n)
      (λ all.
      let fed : byte_at text n ≡ line_feed = eqb-true _ _ (sym (told_fed (eqb-true _ _ all)) ∙ is) in
      present text n (omega arith))
      (λ short. absurd (no_truth (sym (told_short (eqb-false _ _ short)) ∙ is)))
