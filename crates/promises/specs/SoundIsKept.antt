-- A call that is accepted, an event or a heartbeat, leaves a sound record, also from one that was sound but never reached.
use Rattle.std.specs.Prelude.{List, ◌≡◌, ℕ, T, length}
use Rattle.rules.specs.Limits.{row_limit}
use Rattle.soundness.specs.declared.record.Record.{Record}
use Rattle.soundness.specs.Setup.{Setup}
use Rattle.monitor.specs.Step.{Call, step_of}
use Rattle.promises.specs.Stream.{accepted?}
use Rattle.promises.specs.Conditions.{RecordRight}

-- The record has an entry for each of the rows that a table may have, as its arrays in code always do.
pub record Sized (found : Record) : Type 0 where
  pub truths : length found.truths ≡ row_limit
  pub counts : length found.counts ≡ row_limit
  pub firsts : length found.firsts ≡ row_limit

-- What a call leaves is sound, and has the sizes that it had, so that the same can be said of the next call.
pub record StaysSound (setup : Setup) (store : List ℕ) (found : Record) (c : Call) : Type 0 where
  pub sound : RecordRight setup.table (step_of setup store found c).store (step_of setup store found c).left
  pub sized : Sized (step_of setup store found c).left
  pub size : length (step_of setup store found c).store ≡ length store

-- From any record that the call is accepted with: it is then sound, whether or not a stream reaches it.
abbrev pub SoundIsKept : Type 0
SoundIsKept = (setup : Setup) (store : List ℕ) (found : Record) (c : Call)
    → Sized found
    → T (accepted? (step_of setup store found c).reply)
    → StaysSound setup store found c
