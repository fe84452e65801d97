-- Demand 1: "Bad input is refused by number, exactly under the listed conditions, and a refused call changes nothing".
use Rattle.std.specs.Prelude.{List, ◌↔◌, ◌≡◌, ℕ, ◌≤◌, ◌<◌, length}
use Rattle.std.proofs.Math.Option.{some}
use Rattle.refusals.specs.Refusals.{Refused, refused}
use Rattle.rules.specs.Rows.{rows_of, numbers_at}
use Rattle.rules.specs.Stretches.{need_of}
use Rattle.rules.specs.Table.{refused_by, check_of}
use Rattle.refusals.specs.declared.refusal.Refusal.TheVariants.{Length, Row, Limits, Store, Earlier, Late, Unsound, RowList, DeadRow}
use Rattle.dead_rows.specs.Reached.{Reached}
use Rattle.soundness.specs.declared.record.Record.{Record}
use Rattle.times.specs.FrameTime.{not_at, frame_time_of}
use Rattle.times.specs.Times.{time_limit}
use Rattle.soundness.specs.Record.{nothing_seen, clock_of}
use Rattle.monitor.specs.Start.{start_of}
use Rattle.soundness.specs.Setup.{Setup}
use Rattle.monitor.specs.Step.{Call, time_of, refusal, step_of}
use Rattle.promises.specs.Conditions.{
  LengthRight,
  RowRight,
  LimitsRight,
  RowsRight,
  TableRight,
  ListRight,
  RowsReached,
  ListServes,
  Ready,
  RecordRight,
}

-- The table of refusals, a line a condition, each with what those tried before it leave: what refuses with which number and values.
-- "Among rows the first bad row decides": every row below r is right and r is not.
pub data TableRefused (table : List ℕ) : Refused → Type 0 where
  one : ¬ LengthRight table → TableRefused table (refused Length)
  two : LengthRight table
      → (r : ℕ)
      → r < rows_of table
      → RowsRight table r
      → ¬ RowRight r (numbers_at table r)
      → TableRefused table (refused (Row r))
  three : LengthRight table
      → (r : ℕ)
      → r < rows_of table
      → RowsRight table r
      → RowRight r (numbers_at table r)
      → ¬ LimitsRight (numbers_at table r).a (numbers_at table r).b
      → TableRefused table (refused (Limits r))

-- 10 "after 3 and before 4", and 11 "with the lowest such row, after 10 and before 4": every row below r is reached and r is not.
pub data StartRefused (setup : Setup) (size : ℕ) : Refused → Type 0 where
  table : {fault : Refused} → TableRefused setup.table fault → StartRefused setup size fault
  ten : TableRight setup.table → ¬ ListRight setup.table setup.list → StartRefused setup size (refused RowList)
  eleven : TableRight setup.table
      → ListRight setup.table setup.list
      → (r : ℕ)
      → r < rows_of setup.table
      → RowsReached setup.table setup.list r
      → ¬ Reached setup.table setup.list r
      → StartRefused setup size (refused (DeadRow r))
  four : TableRight setup.table
      → ListServes setup.table setup.list
      → size < need_of setup.table
      → StartRefused setup size (refused Store)

pub data CallRefused (setup : Setup) (store : List ℕ) (found : Record) (c : Call) : Refused → Type 0 where
  start : {fault : Refused} → StartRefused setup (length store) fault → CallRefused setup store found c fault
  seven : Ready setup (length store)
      → ¬ RecordRight setup.table store found
      → CallRefused setup store found c (refused Unsound)
  six : Ready setup (length store)
      → RecordRight setup.table store found
      → time_limit < time_of (clock_of found) c
      → CallRefused setup store found c (refused Late)
  five : Ready setup (length store)
      → RecordRight setup.table store found
      → time_of (clock_of found) c ≤ time_limit
      → time_of (clock_of found) c < clock_of found
      → CallRefused setup store found c (refused Earlier)

-- Refused with a number and values if and only if the table of refusals says so: for the check, a start, an event or a frame, the time of a frame.
pub record RefusedExactly : Type 0 where
  pub check : (table : List ℕ) (fault : Refused) → (check_of table ≡ refused_by fault) ↔ TableRefused table fault
  pub start : (setup : Setup) (store : List ℕ) (fault : Refused) → ((start_of setup store).refusal ≡ some fault) ↔ StartRefused setup (length store) fault
  pub call : (setup : Setup) (store : List ℕ) (found : Record) (c : Call) (fault : Refused)
      → ((step_of setup store found c).reply ≡ refusal fault) ↔ CallRefused setup store found c fault
  pub time : (last counter : ℕ) (fault : Refused)
      → (frame_time_of last counter ≡ not_at fault) ↔ ((time_limit < last) × (fault ≡ refused Late))

-- "refusal gives back the record given and leaves the store"; "A refused start gives an all-zero record, row count 0, store untouched."
pub record RefusalChangesNothing : Type 0 where
  pub call : (setup : Setup) (store : List ℕ) (found : Record) (c : Call) (fault : Refused)
      → (step_of setup store found c).reply ≡ refusal fault
      → ((step_of setup store found c).left ≡ found) × ((step_of setup store found c).store ≡ store)
  pub start : (setup : Setup) (store : List ℕ) (fault : Refused)
      → (start_of setup store).refusal ≡ some fault
      → ((start_of setup store).given ≡ nothing_seen 0) × ((start_of setup store).store ≡ store)
