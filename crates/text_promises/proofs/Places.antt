-- A text read by places says what its lines say: the place after a reading is past the line's end, and what is read of a line there is what is read
-- of it alone.
use mathlib.Core.List.{List, ◌∷◌, map}
use mathlib.Core.Path.{◌≡◌, sym, ap, ◌∙◌}
use Prim.Native.Nat.{ℕ, zero, suc, ◌+◌, ◌*◌, ◌%◌, ◌≤◌, ◌<◌}
use native.Mathlib.Omega.{arith}
use borrow.Author.Tests.{leb-true, leb-false, le-leb, lt-leb}
use lib.Dec.{leb, eqb}
use lib.ListN.{length, drop, length-drop, drop_of_length-le}
use lib.Seq.{drop-drop}
use Rattle.lines.specs.Digits.{byte_digits, byte_values, hex_at}
use Rattle.lines.specs.Line.{right_at, sum_at, past_first, past_line_feed, digits_of, line_at}
use Rattle.lines.specs.Read.{LineReply, at_end, bytes_of}
use Rattle.lines.specs.Frame.{frame_widths, read_frame}
use Rattle.meaning.proofs.Truths.{by_test}
use Rattle.lines.proofs.LineLaws.{next_past}
use Rattle.lines.proofs.LinesLaws.{lines-first}
use Rattle.lines.proofs.AgreeLaws.{past-some, said-alone}
use Rattle.promises.specs.TextRead.{until_end, lines_from}
use Rattle.lines.specs.Lines.{lines_going_on, lines_of}
use Rattle.text_promises.specs.Places.{LinesAreReadings}

-- At the end "end" is said, before it something of a line.
said-end : (text : List ℕ) (place : ℕ) → length text ≤ place → (read_frame text place).said ≡ at_end
unfolding line_at
said-end text place past = rw (le-leb _ _ past)

more-said : (text : List ℕ) (place : ℕ) (more : List LineReply) → place < length text
    → until_end (read_frame text place).said more ≡ (read_frame text place).said ∷ more
unfolding line_at
more-said text place more within =
    let n : ℕ = bytes_of frame_widths in
    rw (lt-leb _ _ within)
    (by_test (eqb (right_at text place (digits_of n)) (digits_of n + 1))
    (λ right. rw right
    (by_test (eqb (sum_at text place n % byte_values) (hex_at text (place + byte_digits * n) byte_digits)) (λ is. rw is) (λ wrong. rw wrong)))
    (λ wrong. rw wrong))

abbrev alone : List ℕ → LineReply
alone line = (read_frame line 0).said

-- One reading, and those from the next place.
module _ (text : List ℕ) (place : ℕ) (within : place < length text) where
  abbrev rest : List ℕ
  rest = drop place text

  some : 0 < length rest
  some = rw length-drop (omega arith)

  next_is : (read_frame text place).next ≡ place + past_first rest
  unfolding past_line_feed
  next_is = next_past text place (bytes_of frame_widths) within

  reading_on : (more : List LineReply) → more ≡ map alone (lines_of (drop (read_frame text place).next text))
      → until_end (read_frame text place).said more ≡ map alone (lines_of rest)
  reading_on more is =
      let after : drop (read_frame text place).next text ≡ drop (past_first rest) rest =
      ap (λ (next : ℕ). drop next text) next_is ∙ sym (drop-drop (past_first rest) place text) in
      more-said text place more within
      ∙ rw (is, said-alone frame_widths text place within, after, lines-first rest some)

readings : (text : List ℕ) (place n : ℕ) → length text ≤ place + n → lines_from text place n ≡ map alone (lines_of (drop place text))
unfolding lines_from lines_going_on
readings text place zero enough = let past_end : length text ≤ place = omega arith in rw (drop_of_length-le text past_end)
readings text place (suc n) enough =
    by_test (leb (length text) place)
    (λ past.
    let past_end : length text ≤ place = leb-true _ _ past in
    rw (drop_of_length-le text past_end, said-end text place past_end))
    (λ more.
    let within : place < length text = leb-false _ _ more in
    let next : (read_frame text place).next ≡ place + past_first (drop place text) = next_is text place within in
    let moved : 0 < past_first (drop place text) = past-some (drop place text) (some text place within) in
    reading_on text place within (lines_from text (read_frame text place).next n) (readings text (read_frame text place).next n (omega arith)))

pub lines_are_readings : LinesAreReadings
lines_are_readings text = sym (readings text 0 (length text) (omega arith))
