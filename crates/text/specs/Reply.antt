-- What the code tells of a line before it is written, and the line.
use Rattle.std.specs.Prelude.{List, [], ℕ, Option, Some, None}
use Rattle.refusals.specs.Refusals.{number_of}
use Rattle.monitor.specs.declared.answer.Accepted.{Accepted}
use Rattle.text.specs.declared.replies.Reply.{Reply}
use Rattle.text.specs.Replies.{need_line, verdict_line, moved_line, refusal_line}

abbrev pub line_of : Reply → List ℕ
line_of (Reply.Need need) = need_line need
line_of (Reply.Accepted time (Accepted.Verdict number)) = verdict_line time number
line_of (Reply.Accepted time Accepted.ClockMoved) = moved_line time
line_of (Reply.Refused fault row) = refusal_line (number_of fault) row

-- Nothing told is no line.
abbrev pub text_of : Option Reply → List ℕ
text_of None = []
text_of (Some reply) = line_of reply
