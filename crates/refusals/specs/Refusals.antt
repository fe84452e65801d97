-- What each refusal gives (document 01, "Refusal numbers"): its number, and its row where it has one, each by its name. The one list; and which of two
-- decides.
use Rattle.std.proofs.Math.Option.{Option, none, some}
use Rattle.std.specs.Prelude.{ℕ, List, ◌++◌, codes, decimal}
use Rattle.refusals.specs.declared.refusal.Refusal.{Refusal}
use Rattle.refusals.specs.declared.refusal.Refusal.TheVariants.{Length, Row, Limits, Store, Earlier, Late, Unsound, BadLine, BadSum, RowList, DeadRow}

-- The paper's number, and what is given beside it. A refusal that gives more has a field more here, and says so in `alone` and `of_row` once.
pub record Refused : Type 0 where
  pub number : ℕ
  pub row : Option ℕ

abbrev pub alone : ℕ → Refused
alone number = record { number = number; row = none }

abbrev pub of_row : ℕ → ℕ → Refused
of_row number row = record { number = number; row = some row }

abbrev pub refused : Refusal → Refused
refused Length = alone 1
refused (Row row) = of_row 2 row
refused (Limits row) = of_row 3 row
refused Store = alone 4
refused Earlier = alone 5
refused Late = alone 6
refused Unsound = alone 7
refused BadLine = alone 8
refused BadSum = alone 9
refused RowList = alone 10
refused (DeadRow row) = of_row 11 row

abbrev pub number_of : Refusal → ℕ
number_of r = (refused r).number

-- "row or 00": the row, 0 where there is none.
abbrev pub or_zero : Option ℕ → ℕ
or_zero none = 0
or_zero (some number) = number

abbrev pub row_in : Refused → ℕ
row_in fault = or_zero fault.row

abbrev pub row_of : Refusal → ℕ
row_of r = row_in (refused r)

-- What is printed of a refusal.
abbrev pub text_of : Refusal → List ℕ
text_of r = codes "refused " ++ decimal (number_of r) ++ codes ", row " ++ decimal (row_of r)

-- "Tried in the order of the rows here": the first of two decides.
infixr 30 ◌or_else◌
abbrev pub ◌or_else◌ : Option Refused → Option Refused → Option Refused
none or_else next = next
some fault or_else next = some fault
