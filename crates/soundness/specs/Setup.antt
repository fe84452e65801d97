-- What start and every call are given beside the store and the record (document 01, "The rule table"; document 02, E4).
use Rattle.std.specs.Prelude.{List, ℕ}
use Rattle.soundness.specs.declared.setup.Setup as Lent

-- The rule table, and the list of the rows whose formulas are judged. Any lists of numbers are lent; which of them pass is said in `Ready`.
pub record Setup : Type 0 where
  pub table : List ℕ
  pub list : List ℕ

abbrev pub setup_of : (table list : List ℕ) → Setup
setup_of table list = record { table = table; list = list }

-- What is lent, as it stands behind the references.
abbrev pub setup_in : Lent.Setup → Setup
setup_in lent = setup_of lent.table.now lent.list.now
