-- What a refusal gives tells which one it is, so that answers which say the same refusal are the same. The contracts of `number` and `row` are
-- `r ≡ value`, whose law is `one_value` of crate `meaning`.
use mathlib.Core.Bool.{cond}
use mathlib.Core.Path.{◌≡◌, refl}
use lib.Dec.{eqb}
use Rattle.refusals.specs.Refusals.{Refused, refused, row_in}
use Rattle.refusals.specs.declared.refusal.Refusal.{Refusal}
use Rattle.refusals.specs.declared.refusal.Refusal.TheVariants.{Length, Row, Limits, Store, Earlier, Late, Unsound, BadLine, BadSum, RowList, DeadRow}

-- The refusal that gives this.
abbrev pub refusal_of : Refused → Refusal
refusal_of r =
    cond (eqb r.number 1) Length
    (cond (eqb r.number 2) (Row (row_in r))
    (cond (eqb r.number 3) (Limits (row_in r))
    (cond (eqb r.number 4) Store
    (cond (eqb r.number 5) Earlier
    (cond (eqb r.number 6) Late
    (cond (eqb r.number 7) Unsound
    (cond (eqb r.number 8) BadLine
    (cond (eqb r.number 9) BadSum
    (cond (eqb r.number 10) RowList (DeadRow (row_in r)))))))))))

pub refusal_back : (r : Refusal) → refusal_of (refused r) ≡ r
refusal_back Length = refl
refusal_back (Row row) = refl
refusal_back (Limits row) = refl
refusal_back Store = refl
refusal_back Earlier = refl
refusal_back Late = refl
refusal_back Unsound = refl
refusal_back BadLine = refl
refusal_back BadSum = refl
refusal_back RowList = refl
refusal_back (DeadRow row) = refl
