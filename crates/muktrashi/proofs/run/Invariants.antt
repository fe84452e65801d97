-- `muktrashi::run` meets its contract: each turn takes one piece more, whole, from where the turn before ended (`went_on`). The loop: there is room for a
-- line a byte, and no more rows are counted than a table may have. Assumes nothing.
use Prim.Native.Nat.{◌<◌}
use lib.ListN.{length}
use Rattle.muktrashi.specs.Loop.{ReadyForWhole, Went}
use Rattle.muktrashi.proofs.run.Given as goal

abbrev pub invariant-loop-turns : goal.invariant-loop-turns
invariant-loop-turns l =
    record {
      ready : ReadyForWhole l.state l.table l.piece l.out;
      bytes : 0 < length l.piece;
      went : Went l.initial.table l.turns l.state l.table l.store;
    }
