-- What the program promises of its text: for every text and every cutting of it into pieces, also empty ones, what the steps write in order, then
-- what the text's end writes, is the transcript of the text. The store that is lent begins with every word 0.
use Rattle.std.specs.Prelude.{List, [], ◌∷◌, ◌++◌, ◌≡◌, ℕ, ◌*◌, ◌≤◌, ◌<◌, length}
use Rattle.rules.specs.Limits.{row_limit, row_numbers}
use Rattle.text.specs.Replies.{longest_reply}
use Rattle.text.specs.Transcript.{transcript}
use Rattle.text.specs.Feed.{Memory, piece_fed, state_in, text_end}
use Rattle.text.specs.Course.{Lent, course_of, joined}

-- The pieces and their rooms are any: of a piece that was not taken whole the caller brings the rest again, or not.
abbrev pub EveryCutting : Type 0
EveryCutting = (table : List ℕ)
    → row_limit * row_numbers ≤ length table
    → (lents : List Lent)
    → (course_of table lents).written ++ text_end (state_in (course_of table lents).left) ≡ transcript (course_of table lents).taken

-- Where each piece has room for a line a byte, every byte is taken: the text is the pieces, one after the other.
abbrev pub Roomy : List Lent → Type 0
Roomy [] = Unit
Roomy (lent ∷ more) = (longest_reply * length lent.piece ≤ lent.room) × Roomy more

abbrev pub EveryByteTaken : Type 0
EveryByteTaken = (table : List ℕ)
    → row_limit * row_numbers ≤ length table
    → (lents : List Lent)
    → Roomy lents
    → (course_of table lents).taken ≡ joined lents

-- Where there is room for one line, a piece that is not empty is not taken in vain.
abbrev pub SomeByteTaken : Type 0
SomeByteTaken = (m : Memory) (room : ℕ) (piece : List ℕ)
    → m.desk.stage.rows ≤ row_limit
    → row_limit * row_numbers ≤ length m.desk.table
    → longest_reply ≤ room
    → 0 < length piece
    → 0 < (piece_fed m room piece).used
