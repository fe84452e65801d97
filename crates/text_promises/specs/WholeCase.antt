-- The whole case of document 01 ("The program's text"), as the page has it, with verdicts "as four digits" (document 02, E4).
use Rattle.std.specs.Prelude.{List, [], ◌∷◌, ◌++◌, ◌≡◌, ℕ}
use Rattle.lines.specs.Digits.{digits}
use Rattle.lines.specs.Line.{line_feed}
use Rattle.text.specs.Transcript.{transcript}

-- A line of n digits.
abbrev pub line_bytes : ℕ → ℕ → List ℕ
line_bytes n value = digits n value ++ (line_feed ∷ [])

abbrev pub case_input : List ℕ
case_input =
    line_bytes 24 0x010000000000000000000001
    ++ line_bytes 24 0x000000000000000000000000
    ++ line_bytes 24 0x06010000000002000000020B
    ++ line_bytes 0 0x0
    ++ line_bytes 14 0x00000000000101
    ++ line_bytes 14 0x00020000000103
    ++ line_bytes 14 0x00040000000004
    ++ line_bytes 14 0x00050000000005
    ++ line_bytes 14 0x00050000000006

abbrev pub case_output : List ℕ
case_output =
    line_bytes 8 0x00000004
    ++ line_bytes 16 0x0000000000000000
    ++ line_bytes 16 0x0000000000020001
    ++ line_bytes 16 0x0000000000040001
    ++ line_bytes 16 0x0000000000050000
    ++ line_bytes 6 0xEE0900

abbrev pub WholeCase : Type 0
WholeCase = transcript case_input ≡ case_output
