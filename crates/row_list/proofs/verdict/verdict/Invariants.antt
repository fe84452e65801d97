-- `row_list::verdict::verdict` meets its contract. The loop's invariant: the bits of the rows that are left, put below those of the number, are the
-- verdict. Assumes nothing.
use mathlib.Core.Path.{◌≡◌}
use Rattle.row_list.specs.Verdict.{verdict_number}
use Rattle.row_list.proofs.VerdictLaws.{bits_onto}
use Rattle.row_list.proofs.verdict.verdict.Given as goal

abbrev pub invariant-loop-row : goal.invariant-loop-row
invariant-loop-row l = bits_onto l.truths l.row-iterator.iter.rest.now l.number ≡ verdict_number l.truths l.list
