-- A call with another list than those before it. "The list is checked again with each event" (document 02, E4), and one that passes and leaves no row dead
-- (E8) is answered by the same one-event rules: record and words go on alike, and only the verdict's bits follow the list that the call was given.
use Rattle.std.specs.Prelude.{List, ◌≡◌, ℕ}
use Rattle.refusals.specs.Refusals.{Refused}
use Rattle.soundness.specs.declared.record.Record.{Record}
use Rattle.soundness.specs.Setup.{setup_of}
use Rattle.monitor.specs.Step.{Call, clock_moved, refusal, Outcome, step_of}
use Rattle.promises.specs.Stream.{Starts, state}
use Rattle.promises.specs.Conditions.{ListServes}

-- The same but for the bits of a verdict.
pub record SameButForBits (one another : Outcome) : Type 0 where
  pub left : one.left ≡ another.left
  pub store : one.store ≡ another.store
  pub refused : (fault : Refused) → one.reply ≡ refusal fault → another.reply ≡ refusal fault
  pub moved : one.reply ≡ clock_moved → another.reply ≡ clock_moved

-- Of every call, from any record and any words; and of a stream, so that `VerdictIsMeaning` of the other list speaks of a call with it after this stream.
pub record OtherList : Type 0 where
  pub call : (table list other store : List ℕ) (found : Record) (c : Call)
      → ListServes table list
      → ListServes table other
      → SameButForBits (step_of (setup_of table list) store found c) (step_of (setup_of table other) store found c)
  pub stream : (table list other store : List ℕ)
      → ListServes table other
      → Starts (setup_of table list) store
      → (calls : List Call)
      → Starts (setup_of table other) store × (state (setup_of table list) store calls ≡ state (setup_of table other) store calls)
