-- What is written for the frames is what the calls answer and the record's clock after each, which is the true time: line by line. A refused frame's
-- reply line does not show its time, so the times of the accepted ones are enough.
use mathlib.Core.List.{List, [], ◌∷◌, ◌++◌, map}
use mathlib.Core.Path.{◌≡◌, refl, sym, ap, ◌∙◌}
use Prim.Native.Nat.{ℕ, suc}
use native.Mathlib.Omega.{arith}
use lib.ListN.{length, length-map}
use Rattle.meaning.specs.FrameTime.{counter_of, TrueTimes}
use Rattle.rules.specs.Stretches.{need_of}
use Rattle.lines.specs.Read.{LineReply, at_end, good_line, bad_line}
use Rattle.lines.specs.Frame.{read_frame}
use Rattle.soundness.specs.Setup.{Setup}
use Rattle.monitor.specs.Step as step
use Rattle.monitor.specs.Step.{Call, frame_of, Reply}
use Rattle.promises.specs.Stream.{State, Starts, next, started, after}
use Rattle.promises.specs.TextRead.{good_lines, counter_in, frames_of, counters_of}
use Rattle.promises.specs.LineTimes.{replies, record_times, line_times, accepted_times, LinesTimed}
use Rattle.promises.proofs.LineTimes.{line_times_are_true}
use Rattle.lines.specs.Lines.{lines_of}
use Rattle.text.specs.Replies.{need_line, refused_line}
use Rattle.text.specs.Transcript.{empty_store, Running, frame_reply, frame_leaves, frames_from}
use Rattle.text_promises.specs.Meaning.{RulesThen}
use Rattle.text_promises.specs.LineTimes.{read_lines, written, text_replies, Shows, TranscriptShowsTrueTimes}
use Rattle.text_promises.proofs.Meaning.{frames_follow}

abbrev running : Setup → State → Running
running setup s = record { setup = setup; found = s.found; store = s.store }

-- The answers to good lines from a state, and the record's clock after each, as they are written.
abbrev shown : Setup → State → List LineReply → List ℕ
shown setup s lines = written lines (replies setup s (frames_of (good_lines lines))) (record_times setup s (frames_of (good_lines lines)))

frames_shown : (setup : Setup) (s : State) (lines : List (List ℕ)) → frames_from (running setup s) lines ≡ shown setup s (read_lines lines)
unfolding frames_from written good_lines replies record_times
frames_shown setup s [] = refl
frames_shown setup s (line ∷ lines) = go (read_frame line 0).said (λ s. frames_shown setup s lines)
  where
    go : (said : LineReply)
        → ((s : State) → frames_from (running setup s) lines ≡ shown setup s (read_lines lines))
        → frame_reply (running setup s) said ++ frames_from (frame_leaves (running setup s) said) lines ≡ shown setup s (said ∷ read_lines lines)
    go at_end more = more s
    go (good_line given) more = ap (λ (rest : List ℕ). frame_reply (running setup s) (good_line given) ++ rest) (more _)
    go (bad_line fault) more = ap (λ (rest : List ℕ). refused_line fault ++ rest) (more s)

-- The times of refused lines are not shown.
accepted_shown : (lines : List LineReply) (answered : List Reply) (times others : List ℕ)
    → length times ≡ length answered
    → length others ≡ length answered
    → accepted_times answered times ≡ accepted_times answered others
    → written lines answered times ≡ written lines answered others
unfolding written accepted_times
accepted_shown [] answered times others size size' same = refl
accepted_shown (at_end ∷ lines) answered times others size size' same = accepted_shown lines answered times others size size' same
accepted_shown (bad_line fault ∷ lines) answered times others size size' same =
    ap (λ (rest : List ℕ). refused_line fault ++ rest) (accepted_shown lines answered times others size size' same)
accepted_shown (good_line given ∷ lines) [] times others size size' same = refl
accepted_shown (good_line given ∷ lines) (reply ∷ answered) [] others size size' same = absurd (omega arith)
accepted_shown (good_line given ∷ lines) (reply ∷ answered) (time ∷ times) [] size size' same = absurd (omega arith)
accepted_shown (good_line given ∷ lines) (step.verdict number ∷ answered) (time ∷ times) (other ∷ others) size size' same =
    let here : time ≡ other = cc in
    rw (here, accepted_shown lines answered times others (omega arith) (omega arith) (cc))
accepted_shown (good_line given ∷ lines) (step.clock_moved ∷ answered) (time ∷ times) (other ∷ others) size size' same =
    let here : time ≡ other = cc in
    rw (here, accepted_shown lines answered times others (omega arith) (omega arith) (cc))
accepted_shown (good_line given ∷ lines) (step.refusal fault ∷ answered) (time ∷ times) (other ∷ others) size size' same =
    rw (accepted_shown lines answered times others (omega arith) (omega arith) same)

length_replies : (setup : Setup) (s : State) (calls : List Call) → length (replies setup s calls) ≡ length calls
unfolding replies
length_replies setup s [] = refl
length_replies setup s (c ∷ calls) = ap suc (length_replies setup (next setup s c) calls)

length_times : (setup : Setup) (s : State) (calls : List Call) → length (record_times setup s calls) ≡ length calls
unfolding record_times
length_times setup s [] = refl
length_times setup s (c ∷ calls) = ap suc (length_times setup (next setup s c) calls)

same_length : (lines : List (List ℕ)) (times : List ℕ) → counters_of lines ≡ map counter_of times → length (frames_of lines) ≡ length times
same_length lines times same =
    length-map lines frame_of ∙ sym (length-map lines counter_in) ∙ ap length same ∙ length-map times counter_of

module _ (text : List ℕ) (setup : Setup) (lines : List (List ℕ)) (times : List ℕ) (rules : RulesThen [] (lines_of text) setup lines)
    (starts : Starts setup empty_store) (same : counters_of (good_lines (read_lines lines)) ≡ map counter_of times) where
  abbrev good : List (List ℕ)
  good = good_lines (read_lines lines)

  timed : LinesTimed setup empty_store good times
  timed = line_times_are_true setup empty_store good times starts same

  -- The times shown are the record's.
  shows : Shows text setup lines (line_times setup empty_store good)
  unfolding after
  shows =
      frames_follow text setup lines rules starts
      ∙ ap (λ (rest : List ℕ). need_line (need_of setup.table) ++ rest) (frames_shown setup (started setup empty_store) lines)

  shows_accepted : TrueTimes (accepted_times (text_replies setup lines) times) → Shows text setup lines times
  shows_accepted true-times =
      let size = length_replies setup (started setup empty_store) (frames_of good) in
      shows
      ∙ ap (λ (rest : List ℕ). need_line (need_of setup.table) ++ rest)
      (accepted_shown (read_lines lines) (text_replies setup lines) (line_times setup empty_store good) times
      (length_times setup (started setup empty_store) (frames_of good) ∙ sym size)
      (sym (same_length good times same) ∙ sym size)
      (timed.accepted_ones true-times))

pub transcript_shows_true_times : TranscriptShowsTrueTimes
transcript_shows_true_times text setup lines times rules starts same =
    record {
      all = λ true-times within.
          let told = (timed text setup lines times rules starts same).all true-times within in
          (told.0, rw told.1 at (shows text setup lines times rules starts same));
      accepted_ones = shows_accepted text setup lines times rules starts same;
    }
