-- `rules::table::check` meets its contract. After some rows the check stands at `SoFar`: they pass, and the need so far is where the next stretch begins. The
-- fields of the next row that were looked at fit. The ways out at a fault are `refused-at`, the way out at the end is `passed-at`. Assumes nothing.
use Rattle.std.proofs.Common.{◌≡◌, ℕ, ◌<◌, true}
use Rattle.rules.proofs.FieldsLaws.{field_fits}
use Rattle.rules.proofs.TableLaws.{SoFar}
use Rattle.rules.proofs.table.check.Given as goal

abbrev pub invariant-loop-usage : goal.invariant-loop-usage
invariant-loop-usage l = (k : ℕ) → k < l.usage-index → field_fits l.row l.usage-items k ≡ true

abbrev pub invariant-loop-row : goal.invariant-loop-row
invariant-loop-row l = SoFar l.table l.need l.row
