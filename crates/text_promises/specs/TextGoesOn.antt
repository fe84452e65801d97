-- Demand 1 for the program's text: "a refused call changes nothing ..: the stream goes on as if it hadn't been made", of the lines after the empty one.
-- A refused line is a bad one (8, 9), or one whose frame is refused.
use mathlib.Core.List.{List, [], ◌++◌, map, flatten}
use Rattle.std.specs.Prelude.{◌≡◌, ℕ, length}
use Rattle.rules.specs.Stretches.{need_of}
use Rattle.lines.specs.Lines.{lines_of}
use Rattle.soundness.specs.Record.{clock_of}
use Rattle.soundness.specs.Setup.{Setup}
use Rattle.monitor.specs.Step.{verdict, clock_moved, refusal}
use Rattle.promises.specs.Stream.{State, Starts, started}
use Rattle.promises.specs.LeftOut.{Machine, answers, others, other_answers, Unchanged}
use Rattle.promises.specs.TextAsIfNotMade as made
use Rattle.promises.specs.TextAsIfNotMade.{Reading, Answer, end_answered, replied}
use Rattle.text.specs.Replies.{need_line, verdict_line, moved_line, refused_line}
use Rattle.text.specs.Transcript.{empty_store, transcript}
use Rattle.text_promises.specs.Meaning.{RulesThen}

-- A line is read alone, and its frame is judged with the table, the list and the whole store.
abbrev pub read_alone : Setup → State → List ℕ → Reading
read_alone setup s line = record { text = line; place = 0; setup = setup; size = length s.store }

-- What a line is answered, and the record's clock after it.
pub record Told : Type 0 where
  pub answer : Answer
  pub time : ℕ

abbrev pub frame_lines : Setup → Machine State (List ℕ) Told
frame_lines setup =
    record {
      answer = λ s line. record { answer = made.answer s (read_alone setup s line); time = clock_of (made.left_after s (read_alone setup s line)).found };
      left = λ s line. made.left_after s (read_alone setup s line);
      unrefused = λ told. made.unrefused told.answer;
    }

-- The reply line for a line.
abbrev pub shown : Answer → ℕ → List ℕ
shown end_answered time = []
shown (replied (verdict number)) time = verdict_line time number
shown (replied clock_moved) time = moved_line time
shown (replied (refusal fault)) time = refused_line fault

-- The output where lines are told so: the need, and the reply lines, one after the other.
abbrev pub output_of : Setup → List Told → List ℕ
output_of setup tolds = need_line (need_of setup.table) ++ flatten (map (λ (told : Told). shown told.answer told.time) tolds)

-- The lines after the empty one are told from the start at the empty line.
abbrev pub told : Setup → List (List ℕ) → List Told
told setup lines = answers (frame_lines setup) (started setup empty_store) lines

abbrev pub unrefused_lines : Setup → List (List ℕ) → List (List ℕ)
unrefused_lines setup lines = others (frame_lines setup) (started setup empty_store) lines

-- A text is its rules, with the empty line, and the lines after it. Without those that are refused it is a text with the same rules and the other
-- lines, and its output is the same but for the reply lines of those left out.
pub record WithoutRefused (text : List ℕ) (setup : Setup) (lines : List (List ℕ)) : Type 0 where
  pub rules : List ℕ
  pub whole : text ≡ rules ++ flatten lines
  pub other-lines : RulesThen [] (lines_of (rules ++ flatten (unrefused_lines setup lines))) setup (unrefused_lines setup lines)
  pub output : transcript text ≡ output_of setup (told setup lines)
  pub other-output : transcript (rules ++ flatten (unrefused_lines setup lines))
      ≡ output_of setup (other_answers (frame_lines setup) (told setup lines))

pub record TextGoesOn : Type 0 where
  -- Of any lines, from any record and any words: leaving out those that are refused leaves every other answer with its time, the record and every
  -- word the same.
  pub stream : (setup : Setup) (s : State) (lines : List (List ℕ)) → Unchanged (frame_lines setup) s lines
  -- Of every text whose rules make a table that passes, and a list that does, with room in the program's store.
  pub text : (text : List ℕ) (setup : Setup) (lines : List (List ℕ))
      → RulesThen [] (lines_of text) setup lines
      → Starts setup empty_store
      → WithoutRefused text setup lines
