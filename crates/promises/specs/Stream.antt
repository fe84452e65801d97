-- A stream: any list of calls, of any length, with any times, counters and masks, from a good start on a table and a list that pass and a
-- store of any contents with at least the need. And which of its calls are kept, by their times alone, and which of these are true events, by their masks.
use Rattle.std.specs.Prelude.{Bool, true, false, cond, ◌&&◌, List, [], ◌∷◌, ◌++◌, ◌≡◌, ℕ, ◌≤◌, leb}
use Rattle.std.proofs.Math.Option.{none}
use Rattle.meaning.specs.History.{Event, History, last_time}
use Rattle.meaning.specs.Heartbeat.{Heartbeat, true_events}
use Rattle.soundness.specs.declared.record.Record.{Record}
use Rattle.times.specs.Times.{time_limit}
use Rattle.monitor.specs.Start.{start_of}
use Rattle.soundness.specs.Setup.{Setup}
use Rattle.monitor.specs.Step.{Call, time_of, mask_of, Reply, verdict, clock_moved, refusal, Outcome, step_of}

-- What the monitor works on between two calls.
pub record State : Type 0 where
  pub found : Record
  pub store : List ℕ

-- One call of the stream, and what it leaves.
abbrev pub call : Setup → State → Call → Outcome
call setup s c = step_of setup s.store s.found c

abbrev pub next : Setup → State → Call → State
next setup s c = record { found = (call setup s c).left; store = (call setup s c).store }

-- The state after a list of calls, the oldest first.
unfoldable pub after : Setup → State → List Call → State
after setup s [] = s
after setup s (c ∷ calls) = after setup (next setup s c) calls

-- "From a start": the table and the list pass, and the store has room for the need.
abbrev pub Starts : Setup → List ℕ → Type 0
Starts setup store = (start_of setup store).refusal ≡ none

abbrev pub started : Setup → List ℕ → State
started setup store = record { found = (start_of setup store).given; store = (start_of setup store).store }

-- "Accepted": answered with a verdict, or with "clock moved".
abbrev pub accepted? : Reply → Bool
accepted? (verdict number) = true
accepted? clock_moved = true
accepted? (refusal fault) = false

-- A call is kept when its time is at most the limit and not below the clock.
pub record Keeps (clock : ℕ) (c : Call) : Type 0 where
  pub within : time_of clock c ≤ time_limit
  pub risen : clock ≤ time_of clock c

abbrev pub keeps? : ℕ → Call → Bool
keeps? clock c = leb (time_of clock c) time_limit && leb clock (time_of clock c)

abbrev pub event_of : ℕ → Call → Event
event_of clock c = record { time = time_of clock c; mask = mask_of c }

-- The kept calls of a list, heartbeats too, the newest first, after those kept before; the clock is the time of the newest, 0 before any.
unfoldable pub kept : List Event → List Call → List Event
kept before [] = before
kept before (c ∷ calls) = kept (cond (keeps? (last_time before) c) (event_of (last_time before) c ∷ before) before) calls

-- What is known of a stream so far: the monitor's state, the clock, and the history, which holds the true events alone.
abbrev pub state : Setup → List ℕ → List Call → State
state setup store calls = after setup (started setup store) calls

abbrev pub clock : List Call → ℕ
clock calls = last_time (kept [] calls)

abbrev pub history : List Call → History
history calls = true_events (kept [] calls)

-- A heartbeat, by its mask; every other call is a true event.
abbrev pub Beats : Call → Type 0
Beats c = Heartbeat (mask_of c)

-- One call more: what it answers and leaves, and the history where it is a true event that is kept.
abbrev pub outcome : Setup → List ℕ → List Call → Call → Outcome
outcome setup store calls c = call setup (state setup store calls) c

abbrev pub longer : List Call → Call → History
longer calls c = event_of (clock calls) c ∷ history calls

-- So it is: the state after the list with this call at its end is what the call leaves; a kept call moves the clock to its time, and the history of that
-- list is the longer one at a kept true event, otherwise the same.
pub record OneMore (setup : Setup) (store : List ℕ) (calls : List Call) (c : Call) : Type 0 where
  pub left : state setup store (calls ++ (c ∷ [])) ≡ next setup (state setup store calls) c
  pub moved : Keeps (clock calls) c → clock (calls ++ (c ∷ [])) ≡ time_of (clock calls) c
  pub event : Keeps (clock calls) c → ¬ Beats c → history (calls ++ (c ∷ [])) ≡ longer calls c
  pub heartbeat : Keeps (clock calls) c → Beats c → history (calls ++ (c ∷ [])) ≡ history calls
  pub other : ¬ Keeps (clock calls) c → (clock (calls ++ (c ∷ [])) ≡ clock calls) × (history (calls ++ (c ∷ [])) ≡ history calls)
