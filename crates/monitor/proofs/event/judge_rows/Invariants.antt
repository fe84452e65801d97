-- `monitor::event::judge_rows` meets its contract. The loop's invariant: the record and the store are those after the rows passed, whose stretches end
-- where the next begins, and the arrays have each row; one turn is `row-turn`. Assumes nothing.
use Rattle.std.proofs.Common.{◌≤◌}
use Rattle.rules.specs.Limits.{row_limit}
use Rattle.soundness.specs.Setup.{setup_in}
use Rattle.monitor.specs.Step.{event, moment_of}
use Rattle.monitor.proofs.EventLaws.{Judged}
use Rattle.monitor.proofs.event.judge_rows.Given as goal

abbrev pub invariant-loop-row : goal.invariant-loop-row
invariant-loop-row l =
    record {
      few : l.rows ≤ row_limit;
      done : Judged (moment_of (setup_in l.setup) l.initial.store l.initial.kept (event l.time l.mask)) l.row l.from l.kept l.store;
    }
