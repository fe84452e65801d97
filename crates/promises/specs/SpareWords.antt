-- "Words past the need are never written, and no reply, record or other word depends on them": of every call, and of a start.
use Rattle.std.specs.Prelude.{List, ◌≡◌, ℕ, ◌≤◌, length, take, drop}
use Rattle.rules.specs.Stretches.{need_of}
use Rattle.soundness.specs.declared.record.Record.{Record}
use Rattle.monitor.specs.Start.{start_of}
use Rattle.soundness.specs.Setup.{Setup}
use Rattle.monitor.specs.Step.{Call, step_of}

-- Two stores with room for the need and the same words in it.
pub record SameNeeded (table store other : List ℕ) : Type 0 where
  pub room : need_of table ≤ length store
  pub other-room : need_of table ≤ length other
  pub words : take (need_of table) store ≡ take (need_of table) other

-- A call with two stores, of possibly different lengths, that agree in the need.
pub record Alike (setup : Setup) (store other : List ℕ) (found : Record) (c : Call) : Type 0 where
  pub reply : (step_of setup store found c).reply ≡ (step_of setup other found c).reply
  pub left : (step_of setup store found c).left ≡ (step_of setup other found c).left
  pub needed : take (need_of setup.table) (step_of setup store found c).store ≡ take (need_of setup.table) (step_of setup other found c).store
  pub spare : drop (need_of setup.table) (step_of setup store found c).store ≡ drop (need_of setup.table) store

-- The same of a start.
pub record BegunAlike (setup : Setup) (store other : List ℕ) : Type 0 where
  pub refusal : (start_of setup store).refusal ≡ (start_of setup other).refusal
  pub given : (start_of setup store).given ≡ (start_of setup other).given
  pub needed : take (need_of setup.table) (start_of setup store).store ≡ take (need_of setup.table) (start_of setup other).store
  pub spare : drop (need_of setup.table) (start_of setup store).store ≡ drop (need_of setup.table) store

pub record SpareWords : Type 0 where
  pub call : (setup : Setup) (store other : List ℕ) (found : Record) (c : Call)
      → SameNeeded setup.table store other
      → Alike setup store other found c
  pub start : (setup : Setup) (store other : List ℕ) → SameNeeded setup.table store other → BegunAlike setup store other
