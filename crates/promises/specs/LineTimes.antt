-- Demand 2, its second sentence: "Where only frames move the time, line times equal true times if these never fall, the first is below 65,536 ms and
-- no gap between accepted frames exceeds 65,535 ms." Over the frames of good lines, heartbeats too, judged from a good start.
use Rattle.std.specs.Prelude.{cond, List, [], ◌∷◌, map, ◌≡◌, ℕ, ◌≤◌, T}
use Rattle.meaning.specs.FrameTime.{counter_of, TrueTimes}
use Rattle.refusals.specs.Refusals.{refused}
use Rattle.refusals.specs.declared.refusal.Refusal.TheVariants.{Earlier}
use Rattle.soundness.specs.declared.record.Record.{Record}
use Rattle.times.specs.Times.{time_limit}
use Rattle.soundness.specs.Record.{clock_of}
use Rattle.soundness.specs.Setup.{Setup}
use Rattle.monitor.specs.Step.{Call, frame, Reply, refusal, step_of}
use Rattle.promises.specs.Stream.{State, call, next, Starts, started, accepted?}
use Rattle.promises.specs.TextRead.{lines_read, good_lines, frames_of, counters_of}

-- What each call is answered, and the record's clock after it.
unfoldable pub replies : Setup → State → List Call → List Reply
replies setup s [] = []
replies setup s (c ∷ calls) = (call setup s c).reply ∷ replies setup (next setup s c) calls

unfoldable pub record_times : Setup → State → List Call → List ℕ
record_times setup s [] = []
record_times setup s (c ∷ calls) = clock_of (next setup s c).found ∷ record_times setup (next setup s c) calls

-- The same of good lines, from a start.
abbrev pub line_replies : Setup → List ℕ → List (List ℕ) → List Reply
line_replies setup store lines = replies setup (started setup store) (frames_of lines)

abbrev pub line_times : Setup → List ℕ → List (List ℕ) → List ℕ
line_times setup store lines = record_times setup (started setup store) (frames_of lines)

-- Every member of a list is so.
abbrev pub Every : {A : Type 0} → (A → Type 0) → List A → Type 0
Every so [] = Unit
Every so (member ∷ members) = so member × Every so members

-- The times of those lines that were accepted.
unfoldable pub accepted_times : List Reply → List ℕ → List ℕ
accepted_times [] times = []
accepted_times (reply ∷ replies) [] = []
accepted_times (reply ∷ replies) (time ∷ times) =
    cond (accepted? reply) (time ∷ accepted_times replies times) (accepted_times replies times)

-- Where all true times are as the demand says, and within the limit, each line is accepted, with a verdict or "clock moved", and the record's clock is its
-- true time.
-- Where those of the accepted lines are as the demand says, and the others any at all, the record's clock after each accepted line is its true time.
pub record LinesTimed (setup : Setup) (store : List ℕ) (lines : List (List ℕ)) (times : List ℕ) : Type 0 where
  pub all : TrueTimes times
      → Every (λ (time : ℕ). time ≤ time_limit) times
      → Every (λ (reply : Reply). T (accepted? reply)) (line_replies setup store lines) × (line_times setup store lines ≡ times)
  pub accepted_ones : TrueTimes (accepted_times (line_replies setup store lines) times)
      → accepted_times (line_replies setup store lines) (line_times setup store lines) ≡ accepted_times (line_replies setup store lines) times

-- Good lines that have the counters of true times, wherever they are read. For the program's text see crate `text`.
abbrev pub LineTimesAreTrue : Type 0
LineTimesAreTrue = (setup : Setup) (store : List ℕ) (lines : List (List ℕ)) (times : List ℕ)
    → Starts setup store
    → counters_of lines ≡ map counter_of times
    → LinesTimed setup store lines times

-- The good lines of a text of frames, as a reader reads it: refused lines may stand between them.
abbrev pub TextTimesAreTrue : Type 0
TextTimesAreTrue = (setup : Setup) (store text times : List ℕ)
    → Starts setup store
    → counters_of (good_lines (lines_read text)) ≡ map counter_of times
    → LinesTimed setup store (good_lines (lines_read text)) times

-- A frame's time is never below the clock: no frame is refused 5, whatever it is judged with.
abbrev pub FramesNeverEarlier : Type 0
FramesNeverEarlier = (setup : Setup) (store : List ℕ) (found : Record) (counter mask : ℕ)
    → ¬ ((step_of setup store found (frame counter mask)).reply ≡ refusal (refused Earlier))
