-- `dead_rows::dead::lowest_dead` meets its contract. The loop's invariant is `Swept`: what the marks tell after the rows from `row` on; a turn is
-- `swept-marked` or `swept-dead`. Assumes nothing.
use Rattle.dead_rows.proofs.SweepLaws.{Swept}
use Rattle.dead_rows.proofs.dead.lowest_dead.Given as goal

abbrev pub invariant-loop-row : goal.invariant-loop-row
invariant-loop-row l = Swept l.table l.list l.count l.row l.marks l.dead
