-- What the frames' replies mean: of each verdict that is written bit k is what the formula of the k-th listed row says over the kept true events, and
-- hyphens are written for a kept heartbeat. The calls are the frames of the good lines so far, the oldest first; which of them are kept goes by their
-- times alone.
use Rattle.std.specs.Prelude.{List, [], ◌∷◌, ◌++◌, ◌≡◌, ℕ, ◌<◌}
use Rattle.rules.specs.Limits.{row_limit}
use Rattle.refusals.specs.Refusals.{refused}
use Rattle.rules.specs.Rows.{rows_of}
use Rattle.rules.specs.Stretches.{need_of}
use Rattle.refusals.specs.declared.refusal.Refusal.TheVariants.{Late}
use Rattle.lines.specs.Digits.{byte_at}
use Rattle.lines.specs.Line.{line_feed}
use Rattle.lines.specs.Read.{LineReply, at_end, good_line, bad_line}
use Rattle.lines.specs.Frame.{read_frame}
use Rattle.lines.specs.Rule.{read_rule}
use Rattle.lines.specs.ListLine.{read_list}
use Rattle.times.specs.Times.{time_limit}
use Rattle.soundness.specs.Setup.{Setup, setup_of}
use Rattle.monitor.specs.Step.{Call, time_of, frame_of}
use Rattle.promises.specs.Stream.{Starts, Keeps, Beats, clock}
use Rattle.promises.specs.Verdicts.{Meant}
use Rattle.text.specs.Replies.{need_line, verdict_line, moved_line, refused_line}
use Rattle.lines.specs.Lines.{lines_of}
use Rattle.text.specs.Transcript.{empty_store, last_row, transcript}

-- A good line's reply where the frame is kept: its time and the verdict of a true event, its time and hyphens for a heartbeat; 6 where its time is over
-- the limit.
pub record FrameMeant (setup : Setup) (calls : List Call) (c : Call) (reply : List ℕ) : Type 0 where
  pub judged : Keeps (clock calls) c
      → ¬ Beats c
      → (number : ℕ) × (reply ≡ verdict_line (time_of (clock calls) c) number) × Meant setup calls c number
  pub moved : Keeps (clock calls) c → Beats c → reply ≡ moved_line (time_of (clock calls) c)
  pub late : time_limit < time_of (clock calls) c → reply ≡ refused_line (refused Late)

-- The reply to a line, by what is read of it. A line that is refused is no call.
abbrev pub LineMeant : Setup → List Call → LineReply → List ℕ → Type 0
LineMeant setup calls at_end reply = reply ≡ []
LineMeant setup calls (good_line given) reply = FrameMeant setup calls (frame_of given) reply
LineMeant setup calls (bad_line fault) reply = reply ≡ refused_line fault

abbrev pub calls_after : List Call → LineReply → List Call
calls_after calls at_end = calls
calls_after calls (good_line given) = calls ++ (frame_of given ∷ [])
calls_after calls (bad_line fault) = calls

-- The output for the frames' lines is their replies, one after the other, each as it is meant.
unfoldable pub LinesMeant : Setup → List Call → List (List ℕ) → List ℕ → Type 0
LinesMeant setup calls [] output = output ≡ []
LinesMeant setup calls (line ∷ lines) output =
    (reply : List ℕ)
    × (rest : List ℕ)
    × (output ≡ reply ++ rest)
    × LineMeant setup calls (read_frame line 0).said reply
    × LinesMeant setup (calls_after calls (read_frame line 0).said) lines rest

-- Good rule lines, no more than the row limit, that bring a table to what it is at the empty line, with the list of a good list line just before that
-- one, or of the last row alone; and the lines after the empty one.
pub data RulesThen : List ℕ → List (List ℕ) → Setup → List (List ℕ) → Type 0 where
  empty_line : {table line : List ℕ} {lines : List (List ℕ)}
      → byte_at line 0 ≡ line_feed
      → RulesThen table (line ∷ lines) (setup_of table (last_row (rows_of table))) lines
  list_line : {table line given empty : List ℕ} {lines : List (List ℕ)}
      → (read_list line 0).said ≡ good_line given
      → byte_at empty 0 ≡ line_feed
      → RulesThen table (line ∷ empty ∷ lines) (setup_of table given) lines
  rule_line : {table line given : List ℕ} {setup : Setup} {lines rest : List (List ℕ)}
      → ¬ (byte_at line 0 ≡ line_feed)
      → rows_of table < row_limit
      → (read_rule line 0).said ≡ good_line given
      → RulesThen (table ++ given) lines setup rest
      → RulesThen table (line ∷ lines) setup rest

-- A text whose rules make a table that passes, and a list that does, with room in the program's store: the lines after the empty line are frames.
abbrev pub TranscriptTellsTheMeaning : Type 0
TranscriptTellsTheMeaning = (text : List ℕ) (setup : Setup) (lines : List (List ℕ))
    → RulesThen [] (lines_of text) setup lines
    → Starts setup empty_store
    → (output : List ℕ) × (transcript text ≡ need_line (need_of setup.table) ++ output) × LinesMeant setup [] lines output
