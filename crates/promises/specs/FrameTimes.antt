-- Demand 2, its second sentence, with events between the frames: "Where only frames move the time, line times equal true times if these never fall, the
-- first is below 65,536 ms and no gap between accepted frames exceeds 65,535 ms." Events that are refused, or accepted at the present time, do not move
-- the time. The frames are all that are made, heartbeats too: the gaps between accepted frames are what the board's heartbeats keep short. Over any list of
-- calls from a good start; `LineTimesAreTrue` is the same of frames alone.
use Rattle.std.specs.Prelude.{List, [], ◌∷◌, ◌++◌, map, ◌≡◌, ℕ, ◌≤◌, T}
use Rattle.meaning.specs.FrameTime.{counter_of, TrueTimes}
use Rattle.times.specs.Times.{time_limit}
use Rattle.soundness.specs.Setup.{Setup}
use Rattle.monitor.specs.Step.{Call, event, frame, Reply}
use Rattle.promises.specs.Stream.{Starts, started, accepted?, Keeps, clock}
use Rattle.promises.specs.LineTimes.{replies, record_times, Every, accepted_times}

-- "only frames move the time": each event of the list that is kept, heartbeat or not, is at the clock, which is the last kept time before it.
abbrev pub OnlyFramesMove : List Call → Type 0
OnlyFramesMove calls = (before later : List Call) (time mask : ℕ)
    → calls ≡ before ++ (event time mask ∷ later)
    → Keeps (clock before) (event time mask)
    → time ≡ clock before

-- The counters of the frames among the calls; and of a list with an entry for each call, the entries of the frames.
unfoldable pub frame_counters : List Call → List ℕ
frame_counters [] = []
frame_counters (event time mask ∷ calls) = frame_counters calls
frame_counters (frame counter mask ∷ calls) = counter ∷ frame_counters calls

unfoldable pub of_frames : {A : Type 0} → List Call → List A → List A
of_frames [] entries = []
of_frames (c ∷ calls) [] = []
of_frames (event time mask ∷ calls) (entry ∷ entries) = of_frames calls entries
of_frames (frame counter mask ∷ calls) (entry ∷ entries) = entry ∷ of_frames calls entries

-- What each frame is answered, and the record's clock after it.
abbrev pub frame_replies : Setup → List ℕ → List Call → List Reply
frame_replies setup store calls = of_frames calls (replies setup (started setup store) calls)

abbrev pub frame_times : Setup → List ℕ → List Call → List ℕ
frame_times setup store calls = of_frames calls (record_times setup (started setup store) calls)

-- Where all true times are as the demand says, and within the limit, each frame is accepted, with a verdict or "clock moved", and the record's clock is its
-- true time.
-- Where those of the accepted frames are as the demand says, and the others any at all, the record's clock after each accepted frame is its true time.
pub record FramesTimed (setup : Setup) (store : List ℕ) (calls : List Call) (times : List ℕ) : Type 0 where
  pub all : TrueTimes times
      → Every (λ (time : ℕ). time ≤ time_limit) times
      → Every (λ (reply : Reply). T (accepted? reply)) (frame_replies setup store calls) × (frame_times setup store calls ≡ times)
  pub accepted_ones : TrueTimes (accepted_times (frame_replies setup store calls) times)
      → accepted_times (frame_replies setup store calls) (frame_times setup store calls) ≡ accepted_times (frame_replies setup store calls) times

-- Calls whose frames have the counters of true times.
abbrev pub FrameTimesAreTrue : Type 0
FrameTimesAreTrue = (setup : Setup) (store : List ℕ) (calls : List Call) (times : List ℕ)
    → Starts setup store
    → OnlyFramesMove calls
    → frame_counters calls ≡ map counter_of times
    → FramesTimed setup store calls times
