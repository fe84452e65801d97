-- The lowest dead row tells which rows are reached, in both directions.
use mathlib.Core.List.{List}
use mathlib.Core.Logic.{◌⊎◌, inl, inr, ⊎_elim, ⊎_map}
use mathlib.Core.Path.{◌≡◌, sym}
use Prim.Native.Nat.{ℕ, zero, suc, ◌<◌}
use native.Mathlib.Nat.{eq-or-lt_of_le, le_of_suc-le-suc}
use native.Mathlib.Omega.{arith}
use Rattle.meaning.proofs.Tells.{Tells, tells_passed, tells_decided, told_true, told_false}
use Rattle.rules.specs.Rows.{rows_of, numbers_at}
use Rattle.rules.proofs.RowFitsLaws.{RowFits, row_fits_told}
use Rattle.dead_rows.specs.Reached.{Reached}
use Rattle.dead_rows.specs.DeadRows.{reached?, lowest_dead}
use Rattle.dead_rows.proofs.ReachedLaws.{reached-told}
use Rattle.dead_rows.proofs.SweepLaws.{lowest_is}
use Rattle.promises.specs.Conditions.{TableRight, ListRight, RowsReached, AllReached}
use Rattle.promises.proofs.TableTold.{row_told}

module _ (table list : List ℕ) (right : TableRight table) (listed : ListRight table list) where
  rows_fit : (row : ℕ) → row < rows_of table → RowFits row (numbers_at table row)
  rows_fit row lower =
      let n = numbers_at table row in
      tells_passed (row_fits_told row n) (told_true (row_told row n) (right.rows row lower).0)

  row_reached_told : (row : ℕ) → Tells (reached? table list (rows_of table) row) (Reached table list row)
  row_reached_told = reached-told table list (rows_of table) rows_fit listed.within

  pub dead_is : (r : ℕ) → r < rows_of table → RowsReached table list r → ¬ Reached table list r → lowest_dead table list (rows_of table) ≡ r
  dead_is r lower reached dead =
      sym
      (lowest_is (reached? table list (rows_of table)) (rows_of table) r (omega arith)
      (λ row below. told_true (row_reached_told row) (reached row below))
      (λ _. told_false (row_reached_told r) dead))

  pub none_dead : AllReached table list → lowest_dead table list (rows_of table) ≡ rows_of table
  none_dead reached =
      sym
      (lowest_is (reached? table list (rows_of table)) (rows_of table) (rows_of table) (omega arith)
      (λ row below. told_true (row_reached_told row) (reached row below))
      (λ none. absurd (omega arith)))

  -- "the lowest such row".
  pub record LowestDead (n : ℕ) : Type 0 where
    pub row : ℕ
    pub within : row < n
    pub below : RowsReached table list row
    pub dead : ¬ Reached table list row

  reached-below : (n : ℕ) → RowsReached table list n ⊎ LowestDead n
  reached-below zero = inl (λ row lower. absurd (omega arith))
  reached-below (suc n) =
      ⊎_elim
      (λ below.
      ⊎_map
      (λ here row lower. ⊎_elim (λ e. rw e here) (below row) (eq-or-lt_of_le (le_of_suc-le-suc lower)))
      (λ dead. record { row = n; within = omega arith; below = below; dead = dead })
      (tells_decided (row_reached_told n)))
      (λ lowest. inr (record { row = lowest.row; within = omega (arith, lowest.within); below = lowest.below; dead = lowest.dead }))
      (reached-below n)

  pub reached_decided : AllReached table list ⊎ LowestDead (rows_of table)
  reached_decided = reached-below (rows_of table)
