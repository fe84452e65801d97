-- A run over lent rows is the stream of as many calls as there are numbers, masks and places for their codes: it leaves that stream's record and words,
-- the codes of its replies in order, and every later code as it was. From any record and words.
use Rattle.std.specs.Prelude.{List, ◌++◌, map, ◌≡◌, ℕ, ◌<◌, min, length, get_or, drop}
use Rattle.soundness.specs.declared.record.Record.{Record}
use Rattle.soundness.specs.Setup.{Setup}
use Rattle.monitor.specs.Step.{Call}
use Rattle.promises.specs.Stream.{State, after}
use Rattle.promises.specs.LineTimes.{replies}
use Rattle.codes.specs.Code.{code_of}
use Rattle.call_runs.specs.Run.{calls_of, RunLeaves}
use Rattle.board_promises.specs.Calls.{standing}

-- How many calls are made.
abbrev pub calls_made : (numbers masks codes : List ℕ) → ℕ
calls_made numbers masks codes = min (length numbers) (min (length masks) (length codes))

-- These calls from a state, and what the run leaves. The call at a place has the number and the mask at that place.
pub record RunAsStream (setup : Setup) (s : State) (kind : ℕ → ℕ → Call) (numbers masks codes : List ℕ)
    (kept : Record) (words answers : List ℕ) : Type 0 where
  pub calls : List Call
  pub as_many : length calls ≡ calls_made numbers masks codes
  pub each : (i : ℕ) (other : Call) → i < length calls → get_or calls i other ≡ kind (get_or numbers i 0) (get_or masks i 0)
  pub kept_is : kept ≡ (after setup s calls).found
  pub words_are : words ≡ (after setup s calls).store
  pub answers_are : answers ≡ map code_of (replies setup s calls) ++ drop (length calls) codes

-- What `run_events` and `run_frames` leave, in the words of their contracts.
abbrev pub RunsAreTheStream : Type 0
RunsAreTheStream = (setup : Setup) (store : List ℕ) (found : Record) (kind : ℕ → ℕ → Call) (numbers masks codes : List ℕ)
    (kept : Record) (words answers : List ℕ)
    → RunLeaves setup found store codes (calls_of kind numbers masks) kept words answers
    → RunAsStream setup (standing store found) kind numbers masks codes kept words answers
