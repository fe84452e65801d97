-- Demand 2, its second sentence, of the program's text: "line times equal true times ..", the 12 digits that are written for each frame.
use Rattle.std.specs.Prelude.{List, [], ◌∷◌, ◌++◌, map, ◌≡◌, ℕ, ◌≤◌, T}
use Rattle.meaning.specs.FrameTime.{counter_of, TrueTimes}
use Rattle.rules.specs.Stretches.{need_of}
use Rattle.lines.specs.Read.{LineReply, at_end, good_line, bad_line}
use Rattle.lines.specs.Frame.{read_frame}
use Rattle.times.specs.Times.{time_limit}
use Rattle.soundness.specs.Setup.{Setup}
use Rattle.monitor.specs.Step.{Reply}
use Rattle.promises.specs.Stream.{Starts, accepted?}
use Rattle.promises.specs.TextRead.{good_lines, counters_of}
use Rattle.promises.specs.LineTimes.{line_replies, Every, accepted_times}
use Rattle.lines.specs.Lines.{lines_of}
use Rattle.text.specs.Replies.{need_line, refused_line}
use Rattle.text.specs.Transcript.{empty_store, reply_of, transcript}
use Rattle.text_promises.specs.Meaning.{RulesThen}

-- What is read of each line after the empty one.
abbrev pub read_lines : List (List ℕ) → List LineReply
read_lines lines = map (λ (line : List ℕ). (read_frame line 0).said) lines

-- What is written for lines, where the good ones are answered so and have these times: a reply line for each good one, a refusal for each other.
unfoldable pub written : List LineReply → List Reply → List ℕ → List ℕ
written [] replies times = []
written (at_end ∷ lines) replies times = written lines replies times
written (bad_line fault ∷ lines) replies times = refused_line fault ++ written lines replies times
written (good_line given ∷ lines) [] times = []
written (good_line given ∷ lines) (reply ∷ replies) [] = []
written (good_line given ∷ lines) (reply ∷ replies) (time ∷ times) = reply_of time reply ++ written lines replies times

-- What the frames of the good lines are answered, from the start at the empty line.
abbrev pub text_replies : Setup → List (List ℕ) → List Reply
text_replies setup lines = line_replies setup empty_store (good_lines (read_lines lines))

-- The text's output, with these times in the reply lines.
abbrev pub Shows : (text : List ℕ) → Setup → List (List ℕ) → List ℕ → Type 0
Shows text setup lines times =
    transcript text ≡ need_line (need_of setup.table) ++ written (read_lines lines) (text_replies setup lines) times

-- Where all true times are as the demand says, and within the limit, each good line's reply is a verdict, or hyphens for a heartbeat, with its true
-- time. Where those of the accepted lines are as the demand says, and the others any at all, each of these has its line's true time; the others are
-- refusals.
pub record TextTimed (text : List ℕ) (setup : Setup) (lines : List (List ℕ)) (times : List ℕ) : Type 0 where
  pub all : TrueTimes times
      → Every (λ (time : ℕ). time ≤ time_limit) times
      → Every (λ (reply : Reply). T (accepted? reply)) (text_replies setup lines) × Shows text setup lines times
  pub accepted_ones : TrueTimes (accepted_times (text_replies setup lines) times) → Shows text setup lines times

-- A text whose rules make a table that passes, and a list that does, with room in the program's store; the good lines after the empty line have the
-- counters of true times, and refused lines may stand between them.
abbrev pub TranscriptShowsTrueTimes : Type 0
TranscriptShowsTrueTimes = (text : List ℕ) (setup : Setup) (lines : List (List ℕ)) (times : List ℕ)
    → RulesThen [] (lines_of text) setup lines
    → Starts setup empty_store
    → counters_of (good_lines (read_lines lines)) ≡ map counter_of times
    → TextTimed text setup lines times
