-- What the rows of a right table mean, kind by kind (document 01, "The rule table", its last column; document 02, E1).
use Rattle.std.specs.Prelude.{List, ◌≡◌, ℕ, ◌<◌}
use Rattle.meaning.specs.Interval.{end_of}
use Rattle.meaning.specs.Formula.{Formula, once, always}
use Rattle.rules.specs.Rows.{rows_of, numbers_at}
use Rattle.rules.specs.RowFormula.{formula_of}
use Rattle.rules.specs.declared.numbers.Numbers.{Numbers}
use Rattle.promises.specs.Conditions.{TableRight}

-- What a row with these numbers means, where `of` has the formulas of the rows that it names.
pub record FormulaByKind (of : ℕ → Formula) (n : Numbers) (means : Formula) : Type 0 where
  pub truth : n.kind ≡ 0 → means ≡ Formula.truth
  pub bit : n.kind ≡ 1 → means ≡ Formula.bit n.x
  pub negation : n.kind ≡ 2 → means ≡ Formula.negation (of n.x)
  pub both : n.kind ≡ 3 → means ≡ Formula.both (of n.x) (of n.y)
  pub either : n.kind ≡ 4 → means ≡ Formula.either (of n.x) (of n.y)
  pub previous : n.kind ≡ 5 → means ≡ Formula.previous (of n.x) n.a (end_of n.b)
  pub since : n.kind ≡ 6 → means ≡ Formula.since (of n.x) (of n.y) n.a (end_of n.b)
  -- "Kind 7 means true since x; kind 8 means not once not x".
  pub once : n.kind ≡ 7 → means ≡ once (of n.x) n.a (end_of n.b)
  pub always : n.kind ≡ 8 → means ≡ always (of n.x) n.a (end_of n.b)

abbrev pub FormulasByKind : Type 0
FormulasByKind = (table : List ℕ)
    → TableRight table
    → (row : ℕ)
    → row < rows_of table
    → FormulaByKind (formula_of table) (numbers_at table row) (formula_of table row)
