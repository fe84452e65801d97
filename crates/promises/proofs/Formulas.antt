-- The formula of a row of a right table is that of its kind: made of those of lower rows, by the line of the kind.
use mathlib.Core.List.{List}
use mathlib.Core.Path.{◌≡◌}
use Prim.Native.Nat.{ℕ, ◌<◌}
use Rattle.kinds.specs.Kinds.{kind_at}
use Rattle.rules.specs.Rows.{rows_of, numbers_at}
use Rattle.rules.specs.RowFormula.{made_of, formula_of}
use Rattle.rules.proofs.RowFitsLaws.{row_fits_told, names_lower}
use Rattle.rules.proofs.RowFormulaLaws.{formula-made}
use Rattle.promises.specs.Conditions.{TableRight}
use Rattle.promises.specs.Formulas.{FormulasByKind}
use Rattle.promises.proofs.TableTold.{row_told}

made : (table : List ℕ) → TableRight table → (row : ℕ) → row < rows_of table → formula_of table row ≡ made_of table row (formula_of table)
made table right row lower =
    let n = numbers_at table row in
    formula-made table row (names_lower row n ((row_fits_told row n).sound ((row_told row n).complete (right.rows row lower).0)))

pub formulas_by_kind : FormulasByKind
unfolding kind_at
formulas_by_kind table right row lower =
    let is : formula_of table row ≡ made_of table row (formula_of table) = made table right row lower in
    record {
      truth = λ kind. rw (is, kind);
      bit = λ kind. rw (is, kind);
      negation = λ kind. rw (is, kind);
      both = λ kind. rw (is, kind);
      either = λ kind. rw (is, kind);
      previous = λ kind. rw (is, kind);
      since = λ kind. rw (is, kind);
      once = λ kind. rw (is, kind);
      always = λ kind. rw (is, kind);
    }
