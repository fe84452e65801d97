-- Demand 1 for text: "a refused call changes nothing ..: the stream goes on as if it hadn't been made." A refused line (8, 9), and a line whose frame
-- is refused, change nothing but the place. For every list of readings, each of any text at any place, its frame judged with any table and any length
-- of the store, from any record and any words.
use Rattle.std.specs.Prelude.{Bool, true, false, List, ◌≡◌, ℕ, ◌+◌}
use Rattle.refusals.specs.Refusals.{Refused}
use Rattle.soundness.specs.Setup.{Setup}
use Rattle.monitor.specs.Step.{frame_of, Reply, refusal}
use Rattle.lines.specs.Read as line
use Rattle.lines.specs.Read.{LineReply, Read}
use Rattle.lines.specs.Frame.{read_frame}
use Rattle.promises.specs.Stream.{State, accepted?}
use Rattle.promises.specs.LeftOut.{Machine, Unchanged}
use Rattle.promises.specs.AsIfNotMade.{Attempt, attempt, leaves}
use Rattle.promises.specs.Reading.{Past, frame_bytes}

-- Where a line is read, and what its frame is attempted with.
pub record Reading : Type 0 where
  pub text : List ℕ
  pub place : ℕ
  pub setup : Setup
  pub size : ℕ

abbrev pub read : Reading → Read
read r = read_frame r.text r.place

abbrev pub framed : Reading → List ℕ → Attempt
framed r given = record { setup = r.setup; size = r.size; made = frame_of given }

-- "end", or a verdict, a moved clock or a refusal: of the line, or else of its frame.
pub data Answer : Type 0 where
  end_answered : Answer
  replied : Reply → Answer

abbrev pub answer_to : State → Reading → LineReply → Answer
answer_to s r line.at_end = end_answered
answer_to s r (line.good_line given) = replied (attempt s (framed r given)).reply
answer_to s r (line.bad_line fault) = replied (refusal fault)

-- Only a good line makes a call.
abbrev pub left_by : State → Reading → LineReply → State
left_by s r line.at_end = s
left_by s r (line.good_line given) = leaves s (framed r given)
left_by s r (line.bad_line fault) = s

abbrev pub answer : State → Reading → Answer
answer s r = answer_to s r (read r).said

abbrev pub left_after : State → Reading → State
left_after s r = left_by s r (read r).said

abbrev pub unrefused : Answer → Bool
unrefused end_answered = true
unrefused (replied reply) = accepted? reply

abbrev pub readings : Machine State Reading Answer
readings = record { answer = answer; left = left_after; unrefused = unrefused }

-- A refused line is answered with its number, moves the place past its first line feed or to the end, and does nothing else.
pub record LineNotMade (s : State) (r : Reading) (fault : Refused) : Type 0 where
  pub number : answer s r ≡ replied (refusal fault)
  pub place : Past r.text r.place (read r).next
  pub state : left_after s r ≡ s

-- A refused frame moves the place past its line, and does nothing else.
pub record FrameNotMade (s : State) (r : Reading) : Type 0 where
  pub place : (read r).next ≡ r.place + frame_bytes
  pub state : left_after s r ≡ s

pub record TextAsIfNotMade : Type 0 where
  pub refused-line : (s : State) (r : Reading) (fault : Refused) → (read r).said ≡ line.bad_line fault → LineNotMade s r fault
  pub refused-frame : (s : State) (r : Reading) (given : List ℕ)
      → (read r).said ≡ line.good_line given
      → unrefused (answer s r) ≡ false
      → FrameNotMade s r
  -- Leaving out those that are refused, the others at their places, leaves every other answer, the record and every word the same.
  pub stream : (s : State) (made : List Reading) → Unchanged readings s made
