-- The test of a list tells the conditions on it in document 02's words, in both directions.
use mathlib.Core.List.{List, [], ◌∷◌}
use Prim.Native.Nat.{ℕ, zero, suc, ◌≤◌, ◌<◌}
use native.Mathlib.Nat.{le_of_suc-le-suc}
use native.Mathlib.Omega.{arith}
use lib.ListN.{length, get_or}
use Rattle.meaning.proofs.Tells.{Tells, tells_leb, tells_ltb, tells_and, tells_same}
use Rattle.rules.specs.Rows.{rows_of}
use Rattle.row_list.specs.RowList.{list_limit, rises_within, list_passes}
use Rattle.promises.specs.Conditions.{ListRight}

-- The numbers rise from the least on, within the table.
record Rises (rows least : ℕ) (list : List ℕ) : Type 0 where
  above : (i : ℕ) → i < length list → least ≤ get_or list i 0
  rising : (i j : ℕ) → i < j → j < length list → get_or list i 0 < get_or list j 0
  within : (i : ℕ) → i < length list → get_or list i 0 < rows

module _ (rows least row : ℕ) (list : List ℕ) where
  rises_on : least ≤ row → row < rows → Rises rows (suc row) list → Rises rows least (row ∷ list)
  rises_on risen inside rest = record { above = above; rising = rising; within = within }
    where
      above : (i : ℕ) → i < suc (length list) → least ≤ get_or (row ∷ list) i 0
      above zero i<n = risen
      above (suc i) i<n = omega (arith, risen, rest.above i (le_of_suc-le-suc i<n))

      rising : (i j : ℕ) → i < j → j < suc (length list) → get_or (row ∷ list) i 0 < get_or (row ∷ list) j 0
      rising i zero i<j j<n = absurd (omega arith)
      rising zero (suc j) i<j j<n = rest.above j (le_of_suc-le-suc j<n)
      rising (suc i) (suc j) i<j j<n = rest.rising i j (le_of_suc-le-suc i<j) (le_of_suc-le-suc j<n)

      within : (i : ℕ) → i < suc (length list) → get_or (row ∷ list) i 0 < rows
      within zero i<n = inside
      within (suc i) i<n = rest.within i (le_of_suc-le-suc i<n)

  rises-after : Rises rows least (row ∷ list) → Rises rows (suc row) list
  rises-after rises =
      record {
        above = λ i i<n. rises.rising 0 (suc i) (omega arith) (omega arith);
        rising = λ i j i<j j<n. rises.rising (suc i) (suc j) (omega arith) (omega arith);
        within = λ i i<n. rises.within (suc i) (omega arith);
      }

rises-told : (rows least : ℕ) (list : List ℕ) → Tells (rises_within rows least list) (Rises rows least list)
unfolding rises_within
rises-told rows least [] =
    record {
      sound = λ _.
          record {
            above = λ i none. absurd (omega arith);
            rising = λ i j i<j none. absurd (omega arith);
            within = λ i none. absurd (omega arith);
          };
      complete = λ _. tt;
    }
rises-told rows least (row ∷ list) =
    tells_same
    (λ all. rises_on rows least row list all.0.0 all.0.1 all.1)
    (λ rises. ((rises.above 0 (omega arith), rises.within 0 (omega arith)), rises-after rows least row list rises))
    (tells_and (tells_and (tells_leb least row) (tells_ltb row rows)) (rises-told rows (suc row) list))

pub list-told : (table list : List ℕ) → Tells (list_passes list (rows_of table)) (ListRight table list)
unfolding list_passes
list-told table list =
    tells_same
    (λ all. record { least = all.0.0; most = all.0.1; rising = all.1.rising; within = all.1.within })
    (λ right.
    ((right.least, right.most), record { above = λ i i<n. omega arith; rising = right.rising; within = right.within }))
    (tells_and (tells_and (tells_leb 1 (length list)) (tells_leb (length list) list_limit)) (rises-told (rows_of table) 0 list))

-- A list of one row of the table is right.
pub alone-right : (table : List ℕ) (row : ℕ) → row < rows_of table → ListRight table (row ∷ [])
alone-right table row inside =
    record { least = omega arith; most = omega arith; rising = λ i j i<j j<1. absurd (omega arith); within = within }
  where
    within : (i : ℕ) → i < 1 → get_or (row ∷ []) i 0 < rows_of table
    within zero i<1 = inside
    within (suc i) i<1 = absurd (omega arith)
