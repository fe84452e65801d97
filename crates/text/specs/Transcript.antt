-- The whole output of the program for a whole input (document 01, "The program's text"; document 02, E2 and E4), line by line.
use Rattle.std.specs.Prelude.{cond, List, [], ◌∷◌, ◌++◌, ℕ, ◌-◌, leb, eqb, replicate}
use Rattle.std.proofs.Math.Option.{Option, none, some}
use Rattle.rules.specs.Limits.{row_limit}
use Rattle.refusals.specs.Refusals.{Refused, refused}
use Rattle.rules.specs.Rows.{rows_of}
use Rattle.rules.specs.Stretches.{need_of}
use Rattle.refusals.specs.declared.refusal.Refusal.TheVariants.{Length, BadLine, RowList}
use Rattle.lines.specs.Digits.{byte_at}
use Rattle.lines.specs.Line.{line_feed}
use Rattle.lines.specs.Lines.{lines_of}
use Rattle.lines.specs.Read.{LineReply, at_end, good_line}
use Rattle.lines.specs.Read as read
use Rattle.lines.specs.Frame.{read_frame}
use Rattle.lines.specs.Rule.{read_rule}
use Rattle.lines.specs.ListLine.{list_marked, read_list}
use Rattle.soundness.specs.declared.record.Record.{Record}
use Rattle.soundness.specs.Record.{clock_of}
use Rattle.monitor.specs.Start.{Beginning, start_of}
use Rattle.soundness.specs.Setup.{Setup, setup_of}
use Rattle.monitor.specs.Step.{Call, frame_of, Reply, verdict, clock_moved, refusal, Outcome, step_of}
use Rattle.text.specs.Replies.{need_line, verdict_line, moved_line, refusal_line, refused_line}

-- "The program's store is 8,192 words."
abbrev pub store_words : ℕ
store_words = 8_192

unfoldable pub empty_store : List ℕ
empty_store = replicate store_words 0

-- What the monitor has between two frames.
pub record Running : Type 0 where
  pub setup : Setup
  pub found : Record
  pub store : List ℕ

abbrev pub frame_judged : Running → Call → Outcome
frame_judged s c = step_of s.setup s.store s.found c

-- "Verdicts are written as four digits, a heartbeat as four hyphens"; "per refusal EE, number 2 digits, row or 00".
abbrev pub reply_of : ℕ → Reply → List ℕ
reply_of time (verdict number) = verdict_line time number
reply_of time clock_moved = moved_line time
reply_of time (refusal fault) = refused_line fault

-- The time that is written is the clock after the frame.
abbrev pub frame_reply : Running → LineReply → List ℕ
frame_reply s at_end = []
frame_reply s (good_line given) = reply_of (clock_of (frame_judged s (frame_of given)).left) (frame_judged s (frame_of given)).reply
frame_reply s (read.bad_line fault) = refused_line fault

-- A line that is refused leaves record and store, and so does a frame that is.
abbrev pub frame_leaves : Running → LineReply → Running
frame_leaves s at_end = s
frame_leaves s (good_line given) =
    record { setup = s.setup; found = (frame_judged s (frame_of given)).left; store = (frame_judged s (frame_of given)).store }
frame_leaves s (read.bad_line fault) = s

unfoldable pub frames_from : Running → List (List ℕ) → List ℕ
frames_from s [] = []
frames_from s (line ∷ lines) = frame_reply s (read_frame line 0).said ++ frames_from (frame_leaves s (read_frame line 0).said) lines

-- "The table is checked at the empty line; a need over the store gives EE0400 in place of the need. After any refusal up to or at the empty line
-- nothing more is written."
abbrev pub begun : Setup → List (List ℕ) → Beginning → List ℕ
begun setup lines start = by start.refusal
  where
    by : Option Refused → List ℕ
    by none = need_line (need_of setup.table) ++ frames_from (record { setup = setup; found = start.given; store = start.store }) lines
    by (some fault) = refused_line fault

unfoldable pub setup_then : Setup → List (List ℕ) → List ℕ
setup_then setup lines = begun setup lines (start_of setup empty_store)

-- "no list means the last row alone" (document 02, E4); "Without a list the last row counts as listed" (E8).
abbrev pub last_row : ℕ → List ℕ
last_row rows = (rows - 1) ∷ []

-- "any line between it and the empty one, is EE0A00 at once".
abbrev pub listed_from : Setup → List (List ℕ) → List ℕ
listed_from setup [] = refused_line (refused BadLine)
listed_from setup (line ∷ lines) = cond (eqb (byte_at line 0) line_feed) (setup_then setup lines) (refused_line (refused RowList))

-- "A list line of bad form or sum .. is EE0A00 at once".
abbrev pub list_then : List ℕ → LineReply → List (List ℕ) → List ℕ
list_then table at_end lines = refused_line (refused RowList)
list_then table (good_line given) lines = listed_from (setup_of table given) lines
list_then table (read.bad_line fault) lines = refused_line (refused RowList)

-- A rule line's fault, if it has one, and the table with the numbers of a good one.
abbrev pub rule_fault : LineReply → Option Refused
rule_fault at_end = none
rule_fault (good_line given) = none
rule_fault (read.bad_line fault) = some fault

abbrev pub with_rule : List ℕ → LineReply → List ℕ
with_rule table at_end = table
with_rule table (good_line given) = table ++ given
with_rule table (read.bad_line fault) = table

-- "A bad rule line is EE08 or EE09 with its line counted from 00".
abbrev pub unless_fault : ℕ → Option Refused → List ℕ → List ℕ
unless_fault row none more = more
unless_fault row (some fault) more = refusal_line fault.number row

-- "an empty line", which ends the rules; a list line, which is not counted among the rows; a line more than the row limit "before the empty one EE0100,
-- whatever it holds"; "text that ends at a line's start before the empty line EE0800". A line cut off by the text's end is a bad line, since it has no line
-- feed.
unfoldable pub rules_from : List ℕ → List (List ℕ) → List ℕ
rules_from table [] = refused_line (refused BadLine)
rules_from table (line ∷ lines) =
    cond (eqb (byte_at line 0) line_feed) (setup_then (setup_of table (last_row (rows_of table))) lines)
    (cond (list_marked line 0) (list_then table (read_list line 0).said lines)
    (cond (leb row_limit (rows_of table)) (refused_line (refused Length))
    (unless_fault (rows_of table) (rule_fault (read_rule line 0).said) (rules_from (with_rule table (read_rule line 0).said) lines))))

unfoldable pub transcript : List ℕ → List ℕ
transcript text = rules_from [] (lines_of text)
