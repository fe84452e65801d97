-- Calls as C makes them, by the contract of `muk_event` and `muk_frame`: each is lent the store and the record where they stand, answers a code and
-- leaves a record and words there.
use Rattle.std.specs.Prelude.{List, [], ◌∷◌, ◌++◌, ℕ}
use Rattle.soundness.specs.declared.record.Record.{Record}
use Rattle.soundness.specs.Setup.{Setup}
use Rattle.monitor.specs.Step.{Call}
use Rattle.board.specs.Left.{CallLeaves}

-- Any list of calls, the oldest first, with their codes, the record and the words that the last one leaves: none yet, or one more after those made.
pub data Made (setup : Setup) (store : List ℕ) (found : Record) : (calls : List Call) (codes : List ℕ) (kept : Record) (words : List ℕ) → Type 0 where
  none : Made setup store found [] [] found store
  more : {calls : List Call} {codes : List ℕ} {between : Record} {stand : List ℕ}
      → Made setup store found calls codes between stand
      → (c : Call) (code : ℕ) (kept : Record) (words : List ℕ)
      → CallLeaves setup stand between c code kept words
      → Made setup store found (calls ++ (c ∷ [])) (codes ++ (code ∷ [])) kept words
