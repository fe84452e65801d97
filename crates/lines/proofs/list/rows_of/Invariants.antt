-- `lines::list::rows_of` meets its contract. The loop: the first rows are the numbers of the pairs of digits passed, the others 0. Assumes nothing.
use Rattle.std.proofs.Common.{◌≡◌}
use Rattle.lines.proofs.ListLaws.{rows_done}
use Rattle.lines.proofs.PairLaws.{PairsLeft}
use Rattle.lines.proofs.list.rows_of.Given as goal

abbrev pub invariant-loop-row : goal.invariant-loop-row
invariant-loop-row l =
    (l.row-iterator.iter.size ≡ 2)
    × PairsLeft l.digits l.row-iterator.iter.rest.now l.row-iterator.count
    × (l.rows ≡ rows_done l.digits 0 0 l.row-iterator.count)
