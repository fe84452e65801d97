-- Calls in place are the stream: for every list of events and frames, in any order, the codes are those of the stream's replies, and the record and the
-- words that stand after the last call are the stream's.
use Rattle.std.specs.Prelude.{List, map, ◌≡◌, ℕ}
use Rattle.soundness.specs.declared.record.Record.{Record}
use Rattle.soundness.specs.Setup.{Setup}
use Rattle.monitor.specs.Step.{Call}
use Rattle.promises.specs.Stream.{State, after, started}
use Rattle.promises.specs.LineTimes.{replies}
use Rattle.codes.specs.Code.{code_of}
use Rattle.board.specs.Left.{StartLeaves}
use Rattle.board_promises.specs.Made.{Made}

abbrev pub standing : List ℕ → Record → State
standing store found = record { found = found; store = store }

-- The stream of these calls from a state.
pub record AsStream (setup : Setup) (s : State) (calls : List Call) (codes : List ℕ) (kept : Record) (words : List ℕ) : Type 0 where
  pub codes_are : codes ≡ map code_of (replies setup s calls)
  pub kept_is : kept ≡ (after setup s calls).found
  pub words_are : words ≡ (after setup s calls).store

-- From a start that answered 0, and from any record and words at all. And every list of calls can be made so.
pub record CallsAreTheStream : Type 0 where
  pub from_start : (setup : Setup) (lent store : List ℕ) (found : Record) (calls : List Call) (codes : List ℕ) (kept : Record) (words : List ℕ)
      → StartLeaves setup lent 0 found store
      → Made setup store found calls codes kept words
      → AsStream setup (started setup lent) calls codes kept words
  pub from_any : (setup : Setup) (store : List ℕ) (found : Record) (calls : List Call) (codes : List ℕ) (kept : Record) (words : List ℕ)
      → Made setup store found calls codes kept words
      → AsStream setup (standing store found) calls codes kept words
  pub all_made : (setup : Setup) (store : List ℕ) (found : Record) (calls : List Call)
      → (codes : List ℕ) × (kept : Record) × (words : List ℕ) × Made setup store found calls codes kept words
