-- The formula of a row (document 01, "The rule table").
use Rattle.std.specs.Prelude.{cond, List, ℕ, zero, suc, eqb}
use Rattle.meaning.specs.Interval.{end_of}
use Rattle.meaning.specs.Formula.{Formula}
use Rattle.kinds.specs.Kinds.{Rule, plain, stretch}
use Rattle.kinds.specs.declared.plain.Plain.TheVariants as Plain
use Rattle.kinds.specs.declared.stretch.Stretch.{Stretch}
use Rattle.rules.specs.Rows.{numbers_at, rule_of, kept_by, taken, fed_by}
use Rattle.rules.specs.declared.numbers.Numbers.{Numbers}

-- "A row may name only lower rows": the values of rows 0 to n - 1, each made from those of the rows below it. `other` at every other number.
unfoldable pub below : {A : Type 0} → A → (ℕ → (ℕ → A) → A) → ℕ → ℕ → A
below other make zero row = other
below other make (suc n) row = cond (eqb row n) (make n (below other make n)) (below other make n row)

-- The since that a stretch is kept for, with its keeper and its feeder.
abbrev pub since_of : (ℕ → Formula) → Numbers → Stretch → Formula
since_of of row columns =
    Formula.since (kept_by Formula.truth of row columns.keep) (fed_by Formula.negation of row columns) row.a (end_of row.b)

-- The formula of a row, from its numbers, what it says, and the formulas of other rows.
abbrev pub formula : (ℕ → Formula) → Numbers → Rule → Formula
formula of row (plain Plain.Truth) = Formula.truth
formula of row (plain Plain.Bit) = Formula.bit row.x
formula of row (plain Plain.Negation) = Formula.negation (of row.x)
formula of row (plain Plain.Both) = Formula.both (of row.x) (of row.y)
formula of row (plain Plain.Either) = Formula.either (of row.x) (of row.y)
formula of row (plain Plain.Previous) = Formula.previous (of row.x) row.a (end_of row.b)
formula of row (stretch columns) = taken Formula.negation columns.inside (since_of of row columns)

abbrev pub made_of : List ℕ → ℕ → (ℕ → Formula) → Formula
made_of table row of = formula of (numbers_at table row) (rule_of (numbers_at table row))

unfoldable pub formula_of : List ℕ → ℕ → Formula
formula_of table row = below Formula.truth (made_of table) (suc row) row
