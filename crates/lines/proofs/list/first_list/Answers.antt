-- `lines::list::first_list` meets its contract: its tests are the definition's, and the row numbers stand between the mark and the sum. Assumes nothing.
use Rattle.std.proofs.Common.{◌≡◌, Some, rules, sym, ap, ◌∙◌, arith}
use Rattle.meaning.proofs.Truths.{and_false}
use Rattle.refusals.specs.Refusals.{refused}
use Rattle.row_list.specs.RowList.{numbers_of}
use Rattle.lines.specs.Read.{bad_line, found_said}
use Rattle.lines.specs.ListLine.{list_of}
use Rattle.lines.proofs.ListLaws.{count_most, numbers_of_list, list_none, list_line}
use Rattle.lines.proofs.PartLaws.{between-size, rows-between}
use Rattle.lines.proofs.list.first_list.Goals as goal
use Rattle.lines.proofs.list.first_list.Goals.{then-count-eq0-via-then-count-eq0, then-count-eq0-via-else-count-eq0+then-not-is_list_line}

pub returns-then-count-eq0-clause-said : goal.returns-then-count-eq0-clause-said
returns-then-count-eq0-clause-said c =
    λ some.
    let rest = c.args.rest.now in
    rw (list_none rest some
    (elim c.then-count-eq0.branch [
      | then-count-eq0-via-then-count-eq0 w ↦ rw (← c.list_count-count.ensures, w.if-count-eq0.true) (and_false _)
      | then-count-eq0-via-else-count-eq0+then-not-is_list_line w ↦ rw (← w.is_list_line.ensures, w.if-not-is_list_line.true)
    ]))

pub overflow_add-count : goal.overflow_add-count
overflow_add-count c = omega (arith, count_most c.args.rest.now 0)

pub line_digits-requires : goal.line_digits-requires
line_digits-requires c = omega (arith, count_most c.args.rest.now 0)

pub returns-in_err-digits-clause-said : goal.returns-in_err-digits-clause-said
returns-in_err-digits-clause-said c =
    λ some.
    let rest = c.args.rest.now in
    let line = list_line rest some (sym c.is_list_line.ensures ∙ c.if-not-is_list_line.false) (omega arith) in
    let made : found_said numbers_of (Some c.from_residual.result) ≡ bad_line (refused c.in_err-digits.field-0.0) = search rules in
    made ∙ sym (rw (line, ← c.list_count-count.ensures, c.in_err-digits.ensures some))

pub rows_of-requires : goal.rows_of-requires
rows_of-requires c = omega (arith, between-size _ _ _ c.in_ok-digits.ensures.1 c.in_ok-digits.ensures.2, count_most c.args.rest.now 0)

pub returns-clause-said : goal.returns-clause-said
returns-clause-said c =
    λ some.
    let rest = c.args.rest.now in
    let good = c.in_ok-digits.ensures in
    let line = list_line rest some (sym c.is_list_line.ensures ∙ c.if-not-is_list_line.false) (omega arith) in
    let rows = c.rows_of.ensures ∙ ap list_of (rows-between rest _ _ good.1 good.2) in
    rw (line, ← c.list_count-count.ensures, good.0, rows, numbers_of_list)

pub returns-clause-list : goal.returns-clause-list
returns-clause-list c =
    λ some.
    let rest = c.args.rest.now in
    let good = c.in_ok-digits.ensures in
    let line = list_line rest some (sym c.is_list_line.ensures ∙ c.if-not-is_list_line.false) (omega arith) in
    let rows = c.rows_of.ensures ∙ ap list_of (rows-between rest _ _ good.1 good.2) in
    rw (line, ← c.list_count-count.ensures, good.0, rows)
