-- `dead_rows::marks::mark_listed` meets its contract. The loop's invariant: marking the rest of the list is left to do. Assumes nothing.
use mathlib.Core.Path.{◌≡◌}
use lib.ListN.{drop}
use Rattle.dead_rows.specs.Marks.{marked_listed}
use Rattle.dead_rows.proofs.marks.mark_listed.Given as goal

abbrev pub invariant-loop-row : goal.invariant-loop-row
invariant-loop-row l = marked_listed l.rows l.list l.initial.marks ≡ marked_listed l.rows (drop l.row-index l.list) l.marks
