use mathlib.Core.Path.{◌≡◌, refl, sym, ap, ◌∙◌}
use mathlib.Core.Bool.{true}
use lib.ListN.{length}
use native.Mathlib.Omega.{arith}
use borrow.Author.Count.{below_more}
use Rattle.meaning.proofs.Tells.{tells_passed}
use Rattle.rules.specs.Stretches.{width, offset}
use Rattle.rules.specs.Table.{length_passes, first_fault}
use Rattle.rules.proofs.FieldsLaws.{fields_of, field_fits, fields_pass, field_fails, unknown_fails}
use Rattle.rules.proofs.TableLaws.{whole_rows_told, fault_row, fault_limits, fault_none, refused-at, passed-at, next-passes, refused_length}
use Rattle.rules.proofs.PassedLaws.{offset-most, rows-good, width-most, good-row}
use Rattle.rules.proofs.table.check.Goals as goal

pub returns-then-not-length_passes : goal.returns-then-not-length_passes
returns-then-not-length_passes c = refused_length _ (sym c.length_passes.ensures ∙ c.if-not-length_passes.true)

pub overflow_cast-rows : goal.overflow_cast-rows
overflow_cast-rows c =
    let whole = tells_passed (whole_rows_told _) (sym c.length_passes.ensures ∙ c.if-not-length_passes.false) in
    omega arith

pub loop-row-init : goal.loop-row-init
unfolding offset first_fault
loop-row-init c =
    let size : length_passes (length c.args.table.now) ≡ true = sym c.length_passes.ensures ∙ c.if-not-length_passes.false in
    record {
      size = size;
      whole = tells_passed (whole_rows_told _) size;
      within = omega arith;
      needed = refl;
      good = refl;
    }

pub returns-in_default : goal.returns-in_default
returns-in_default c =
    refused-at _ _ _ c.loop-row.invariant _
    c.loop-row-test.true
    (rw c.numbers_at-numbers.ensures at (fault_row c.loop-row.row c.numbers_at-numbers.result (unknown_fails _ _ c.in_default.ensures.1)))

pub loop-usage-preserved : goal.loop-usage-preserved
loop-usage-preserved c =
    below_more _ _ c.loop-usage.invariant
    (let fit : c.admits.result ≡ field_fits c.loop-row.row (fields_of c.line-line.result c.numbers_at-numbers.result) c.loop-usage.usage-index = c.admits.ensures in
    cc)

pub returns-then-not-admits : goal.returns-then-not-admits
returns-then-not-admits c =
    let fit : c.admits.result ≡ field_fits c.loop-row.row (fields_of c.line-line.result c.numbers_at-numbers.result) c.loop-usage.usage-index = c.admits.ensures in
    refused-at _ _ _ c.loop-row.invariant _
    c.loop-row-test.true
    (rw c.numbers_at-numbers.ensures at (fault_row c.loop-row.row c.numbers_at-numbers.result
    (field_fails _ _ _ _ c.in-Ok.ensures c.line-line.ensures c.loop-usage.usage-index (omega arith) (sym fit ∙ c.if-not-admits.true))))

pub returns-then-not-limits_pass : goal.returns-then-not-limits_pass
returns-then-not-limits_pass c =
    let fit = fields_pass c.loop-row.row c.numbers_at-numbers.result _ _ c.in-Ok.ensures c.line-line.ensures (λ k few. c.loop-usage.invariant k (omega arith)) in
    refused-at _ _ _ c.loop-row.invariant _
    c.loop-row-test.true
    (rw c.numbers_at-numbers.ensures at (fault_limits c.loop-row.row c.numbers_at-numbers.result fit (sym (rw c.limits.ensures at c.limits_pass.ensures) ∙ c.if-not-limits_pass.true)))

pub overflow_add-need : goal.overflow_add-need
overflow_add-need c =
    let fit = fields_pass c.loop-row.row c.numbers_at-numbers.result _ _ c.in-Ok.ensures c.line-line.ensures (λ k few. c.loop-usage.invariant k (omega arith)) in
    let good = fault_none c.loop-row.row c.numbers_at-numbers.result fit (sym (rw c.limits.ensures at c.limits_pass.ensures) ∙ c.if-not-limits_pass.false) in
    let before = c.loop-row.invariant in
    omega (arith, offset-most _ _ (rows-good _ _ before.good), width-most c.numbers_at-numbers.result (good-row _ _ good).limits)

pub loop-row-preserved : goal.loop-row-preserved
loop-row-preserved c =
    let fit = fields_pass c.loop-row.row c.numbers_at-numbers.result _ _ c.in-Ok.ensures c.line-line.ensures (λ k few. c.loop-usage.invariant k (omega arith)) in
    let good = fault_none c.loop-row.row c.numbers_at-numbers.result fit (sym (rw c.limits.ensures at c.limits_pass.ensures) ∙ c.if-not-limits_pass.false) in
    next-passes _ _ _ c.loop-row.invariant _
    c.loop-row-test.true
    (rw c.numbers_at-numbers.ensures at good)
    (c.words-need.ensures ∙ ap width c.numbers_at-numbers.ensures)

pub returns-after-loop-row : goal.returns-after-loop-row
returns-after-loop-row c = passed-at _ _ _ c.loop-row.invariant (omega arith)
