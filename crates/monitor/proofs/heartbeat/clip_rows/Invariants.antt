-- `monitor::heartbeat::clip_rows` meets its contract. The loop's invariant: the record and the store are those where the rows passed are clipped, whose
-- stretches end where the next begins, and the arrays have each row; one turn is `clip-turn`. Assumes nothing.
use Rattle.std.proofs.Common.{◌≤◌}
use Rattle.rules.specs.Limits.{row_limit}
use Rattle.monitor.proofs.EventLaws.{Clipped}
use Rattle.monitor.proofs.heartbeat.clip_rows.Given as goal

abbrev pub invariant-loop-row : goal.invariant-loop-row
invariant-loop-row l =
    record {
      few : l.rows ≤ row_limit;
      done : Clipped l.setup.table.now l.initial.store l.initial.kept l.time l.row l.from l.kept l.store;
    }
