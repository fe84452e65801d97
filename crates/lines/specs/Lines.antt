-- A text is its lines: each with its line feed, and a last one without where the text does not end in a line feed.
use Rattle.std.specs.Prelude.{cond, List, [], ◌∷◌, ◌++◌, ℕ, eqb}
use Rattle.lines.specs.Line.{line_feed}

-- What is left of a text after an unfinished line: nothing where that line is empty, else the line, which the text's end cuts off.
abbrev pub cut_off : List ℕ → List (List ℕ)
cut_off [] = []
cut_off (byte ∷ bytes) = (byte ∷ bytes) ∷ []

-- The lines of a text that goes on from an unfinished line.
unfoldable pub lines_going_on : List ℕ → List ℕ → List (List ℕ)
lines_going_on line [] = cut_off line
lines_going_on line (byte ∷ text) =
    cond (eqb byte line_feed) ((line ++ (byte ∷ [])) ∷ lines_going_on [] text) (lines_going_on (line ++ (byte ∷ [])) text)

abbrev pub lines_of : List ℕ → List (List ℕ)
lines_of text = lines_going_on [] text
