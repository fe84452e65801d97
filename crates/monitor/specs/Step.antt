-- One call, an event or a frame, a heartbeat or not: what it answers and what it leaves, for every input (document 01, "Refusal numbers" and "Lines from
-- the board"; document 02, E2 and E4).
use Rattle.std.specs.Prelude.{Bool, true, false, List, ◌≡◌, ℕ, leb, length, get_or, Result, Ok, Err}
use Rattle.std.proofs.Math.Option.{Option, none, some}
use Rattle.meaning.specs.FrameTime.{frame_time}
use Rattle.refusals.specs.Refusals.{Refused, refused, ◌or_else◌}
use Rattle.refusals.specs.declared.refusal.Refusal.{Refusal}
use Rattle.refusals.specs.declared.refusal.Refusal.TheVariants.{Earlier, Late, Unsound}
use Rattle.soundness.specs.declared.record.Record.{Record}
use Rattle.monitor.specs.declared.answer.Accepted.{Accepted}
use Rattle.times.specs.Times.{time_limit}
use Rattle.row_list.specs.Verdict.{verdict_number}
use Rattle.soundness.specs.Record.{clock_of}
use Rattle.soundness.specs.Soundness.{sound?}
use Rattle.soundness.specs.Setup.{Setup}
use Rattle.soundness.specs.Ready.{ready_of, refusal_in}
use Rattle.monitor.specs.Event.{Moment, heartbeat_else, store_after, record_after}

-- An event has its time; a frame has a counter, and the time that this shows since the clock.
pub data Call : Type 0 where
  event : (time mask : ℕ) → Call
  frame : (counter mask : ℕ) → Call

-- Its time by the clock, which is the time of the last accepted call, a heartbeat's too (0 before any).
abbrev pub time_of : ℕ → Call → ℕ
time_of clock (event time mask) = time
time_of clock (frame counter mask) = frame_time clock counter

abbrev pub mask_of : Call → ℕ
mask_of (event time mask) = mask
mask_of (frame counter mask) = mask

-- The frame of a line's numbers: its counter and its mask.
abbrev pub frame_of : List ℕ → Call
frame_of given = frame (get_or given 0 0) (get_or given 1 0)

-- A condition that is not met is its refusal.
abbrev pub unless : Bool → Refusal → Option Refused
unless true refusal = none
unless false refusal = some (refused refusal)

-- "an event uses 1 to 4, then 7, 6, 5", with 10 "after 3 and before 4": "record not sound", "time over 281,474,976,710,655", time below the clock ("Refusal
-- 5 and line times compare with the clock"). A heartbeat is refused like any call.
unfoldable pub refusal_of : Setup → List ℕ → Record → Call → Option Refused
refusal_of setup store found call =
    refusal_in (ready_of setup (length store))
    or_else unless (sound? setup.table store found) Unsound
    or_else unless (leb (time_of (clock_of found) call) time_limit) Late
    or_else unless (leb (clock_of found) (time_of (clock_of found) call)) Earlier

-- The call as a moment.
abbrev pub moment_of : Setup → List ℕ → Record → Call → Moment
moment_of setup store found call =
    record { table = setup.table; store = store; found = found; time = time_of (clock_of found) call; mask = mask_of call }

-- "one number whose bit k is the verdict of the k-th listed row (k from 0), other bits 0".
abbrev pub verdict_of : Setup → List ℕ → ℕ
verdict_of setup truths = verdict_number truths setup.list

-- "the answer is either a verdict or a numbered refusal", or "a third one, 'clock moved'"; and the record and the store that stand beside it.
pub data Reply : Type 0 where
  verdict : ℕ → Reply
  clock_moved : Reply
  refusal : Refused → Reply

pub record Outcome : Type 0 where
  pub reply : Reply
  pub left : Record
  pub store : List ℕ

abbrev pub accepted_reply : Setup → Moment → Reply
accepted_reply setup m = heartbeat_else m clock_moved (verdict (verdict_of setup (record_after m).truths))

-- "refusal gives back the record given and leaves the store".
abbrev pub outcome_by : Setup → List ℕ → Record → Moment → Option Refused → Outcome
outcome_by setup store found m (some fault) = record { reply = refusal fault; left = found; store = store }
outcome_by setup store found m none =
    record { reply = accepted_reply setup m; left = record_after m; store = store_after m }

unfoldable pub step_of : Setup → List ℕ → Record → Call → Outcome
step_of setup store found call =
    outcome_by setup store found (moment_of setup store found call) (refusal_of setup store found call)

-- What an answer says, with the record and the store at exit.
abbrev pub said : Result Accepted Refusal → Reply
said (Ok (Accepted.Verdict number)) = verdict number
said (Ok Accepted.ClockMoved) = clock_moved
said (Err fault) = refusal (refused fault)

abbrev pub said_step : Result Accepted Refusal → Record → List ℕ → Outcome
said_step answer left store = record { reply = said answer; left = left; store = store }

-- What `event` and `frame` promise of the call that each makes: the answer, the record and every word of the store at exit say this.
abbrev pub StepGives : Setup → (store : List ℕ) → Record → Call → Result Accepted Refusal → Record → (after : List ℕ) → Type 0
StepGives setup store found call answer left after = said_step answer left after ≡ step_of setup store found call
