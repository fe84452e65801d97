-- `rules::numbers::numbers_at` meets its contract: a row past the table's length has no number in it. Assumes nothing.
use Prim.Native.Nat.{◌*◌}
use native.Mathlib.Nat.{add-zero}
use Rattle.rules.specs.Limits.{row_numbers}
use Rattle.rules.specs.Rows.{numbers_at}
use Rattle.rules.proofs.RowsLaws.{field_clipped}
use Rattle.rules.proofs.numbers.numbers_at.Goals as goal

pub returns : goal.returns
unfolding numbers_at
returns c =
    let clipped = field_clipped c.args.table.now c.args.row in
    cc (clipped 0, clipped 1, clipped 2, clipped 3, clipped 4, add-zero (c.min-start.result * row_numbers))
