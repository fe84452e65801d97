-- `row_list::list::passes` meets its contract. The loop's invariant: the numbers passed rise within the table, so that the rest decides. Assumes nothing.
use mathlib.Core.Path.{◌≡◌}
use lib.ListN.{drop}
use Rattle.row_list.specs.RowList.{rises_within}
use Rattle.row_list.proofs.list.passes.Given as goal

abbrev pub invariant-loop-row : goal.invariant-loop-row
invariant-loop-row l = rises_within l.rows 0 l.list ≡ rises_within l.rows l.least (drop l.row-index l.list)
