-- The lines that the program writes (document 01, "The program's text": "Output lines, each ended by a line feed"; document 02, E2 and E4).
use Rattle.std.specs.Prelude.{List, [], ◌∷◌, ◌++◌, ◌≡◌, ℕ, ◌+◌, length, replicate}
use Rattle.lines.specs.Digits.{byte_digits, digits, overwritten}
use Rattle.lines.specs.Line.{line_feed}
use Rattle.refusals.specs.Refusals.{Refused, row_in}

-- A line of two numbers, each in so many digits.
unfoldable pub reply_line : (n first m second : ℕ) → List ℕ
reply_line n first m second = digits n first ++ (digits m second ++ (line_feed ∷ []))

-- "need in 8 digits".
abbrev pub need_digits : ℕ
need_digits = 8

abbrev pub need_line : ℕ → List ℕ
need_line need = reply_line 0 0 need_digits need

-- "per frame 12 digits of time", and: "Verdicts are written as four digits, a heartbeat as four hyphens".
abbrev pub time_digits : ℕ
time_digits = 12

abbrev pub verdict_digits : ℕ
verdict_digits = 4

abbrev pub verdict_line : ℕ → ℕ → List ℕ
verdict_line time number = reply_line time_digits time verdict_digits number

abbrev pub hyphen : ℕ
hyphen = 45

abbrev pub hyphens : ℕ → List ℕ
hyphens n = replicate n hyphen

unfoldable pub moved_line : ℕ → List ℕ
moved_line time = digits time_digits time ++ (hyphens verdict_digits ++ (line_feed ∷ []))

-- "per refusal EE, number 2 digits, row or 00".
abbrev pub refusal_mark : ℕ
refusal_mark = 0xEE

abbrev pub refusal_line : ℕ → ℕ → List ℕ
refusal_line number row = digits byte_digits refusal_mark ++ reply_line byte_digits number byte_digits row

-- A refusal with the row that it gives, or 00.
abbrev pub refused_line : Refused → List ℕ
refused_line fault = refusal_line fault.number (row_in fault)

-- No line is longer than an accepted frame's.
abbrev pub longest_reply : ℕ
longest_reply = time_digits + verdict_digits + 1

-- A text is written from the output's start, over what is there; how many bytes it has.
pub record Wrote (out text : List ℕ) (wrote : ℕ) (after : List ℕ) : Type 0 where
  pub count : wrote ≡ length text
  pub bytes : after ≡ overwritten out 0 text
