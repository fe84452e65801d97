-- The check of a table, and of a list, the rows that it reaches and a store's size for it, refuses what the table of refusals says, and passes what is right.
use mathlib.Core.List.{List}
use mathlib.Core.Logic.{◌⊎◌, inl, inr, ⊎_elim, ⊎_map}
use mathlib.Core.Option.{none}
use mathlib.Core.Path.{◌≡◌, refl, sym}
use Prim.Native.Nat.{ℕ, zero, suc, ◌≤◌, ◌<◌}
use native.Mathlib.Nat.{eq-or-lt_of_le, le_of_suc-le-suc}
use native.Mathlib.Omega.{arith}
use borrow.Author.Tests.{le-leb, lt-leb, lt-ltb, le-ltb}
use lib.ListN.{length}
use Rattle.meaning.proofs.SpansLaws.{le_or_lt}
use Rattle.meaning.proofs.Tells.{tells_passed, tells_decided, told_true, told_false}
use Rattle.refusals.specs.Refusals.{Refused, refused}
use Rattle.rules.specs.Rows.{rows_of, numbers_at}
use Rattle.rules.specs.Stretches.{offset, need_of}
use Rattle.rules.specs.Table.{first_fault, passed, refused_by, check_of}
use Rattle.refusals.specs.declared.refusal.Refusal.TheVariants.{Length, Row, Limits, Store, RowList, DeadRow}
use Rattle.rules.proofs.TableLaws.{fault_row, fault_limits, fault_none, first-at, whole_rows_told, SoFar, refused-at, passed-at, refused_length}
use Rattle.rules.specs.declared.numbers.Numbers.{Numbers}
use Rattle.soundness.specs.Setup.{Setup}
use Rattle.soundness.specs.Ready.{with_list, with_reached, ready_of}
use Rattle.promises.specs.Conditions.{LengthRight, RowRight, LimitsRight, RowsRight, TableRight, ListServes, Ready}
use Rattle.promises.specs.Refusing.{TableRefused, one, two, three, StartRefused, table, ten, eleven, four}
use Rattle.promises.proofs.TableTold.{length_told, row_told, limits_told}
use Rattle.promises.proofs.ListTold.{list-told}
use Rattle.promises.proofs.ReachedTold.{dead_is, none_dead, reached_decided}

module _ (rules : List ℕ) where
  rows_no_fault : (n : ℕ) → RowsRight rules n → first_fault rules n ≡ none
  unfolding first_fault
  rows_no_fault zero right = refl
  rows_no_fault (suc n) right =
      let here = right n (omega arith) in
      let numbers = numbers_at rules n in
      first-at rules n none
      (rows_no_fault n (λ row lower. right row (omega arith)))
      (fault_none n numbers (told_true (row_told n numbers) here.0) (told_true (limits_told numbers.a numbers.b) here.1))

  -- Where the check stands at a row with only right ones below it.
  so_far : LengthRight rules → (row : ℕ) → row ≤ rows_of rules → RowsRight rules row → SoFar rules (offset rules row) row
  so_far lengths row within right =
      let size = told_true (length_told rules) lengths in
      record {
        size = size;
        whole = tells_passed (whole_rows_told (length rules)) size;
        within = within;
        needed = refl;
        good = rows_no_fault row right;
      }

  pub table-refuses : (fault : Refused) → TableRefused rules fault → check_of rules ≡ refused_by fault
  table-refuses _ (one wrong) = sym (refused_length rules (told_false (length_told rules) wrong))
  table-refuses _ (two lengths r lower rows wrong) =
      let numbers = numbers_at rules r in
      sym
      (refused-at rules (offset rules r) r (so_far lengths r (omega arith) rows) (refused (Row r)) lower
      (fault_row r numbers (told_false (row_told r numbers) wrong)))
  table-refuses _ (three lengths r lower rows right wrong) =
      let numbers = numbers_at rules r in
      sym
      (refused-at rules (offset rules r) r (so_far lengths r (omega arith) rows) (refused (Limits r)) lower
      (fault_limits r numbers (told_true (row_told r numbers) right) (told_false (limits_told numbers.a numbers.b) wrong)))

  pub table-passes : TableRight rules → check_of rules ≡ passed (rows_of rules) (need_of rules)
  table-passes right =
      sym (passed-at rules (need_of rules) (rows_of rules) (so_far right.lengths (rows_of rules) (omega arith) right.rows) (omega arith))

-- What is wrong with a row.
abbrev Bad : ℕ → Numbers → Type 0
Bad row n = (¬ RowRight row n) ⊎ (RowRight row n × (¬ LimitsRight n.a n.b))

row_decided : (row : ℕ) (n : Numbers) → (RowRight row n × LimitsRight n.a n.b) ⊎ Bad row n
row_decided row n =
    ⊎_elim
    (λ right. ⊎_map (λ limits. (right, limits)) (λ wrong. inr (right, wrong)) (tells_decided (limits_told n.a n.b)))
    (λ wrong. inr (inl wrong))
    (tells_decided (row_told row n))

module _ (rules : List ℕ) where
  -- "Among rows the first bad row decides".
  record FirstBad (n : ℕ) : Type 0 where
    row : ℕ
    within : row < n
    below : RowsRight rules row
    bad : Bad row (numbers_at rules row)

  rows_decided : (n : ℕ) → RowsRight rules n ⊎ FirstBad n
  rows_decided zero = inl (λ row lower. absurd (omega arith))
  rows_decided (suc n) =
      ⊎_elim
      (λ below.
      ⊎_map
      (λ here row lower. ⊎_elim (λ e. rw e here) (below row) (eq-or-lt_of_le (le_of_suc-le-suc lower)))
      (λ bad. record { row = n; within = omega arith; below = below; bad = bad })
      (row_decided n (numbers_at rules n)))
      (λ first. inr (record { row = first.row; within = omega arith; below = first.below; bad = first.bad }))
      (rows_decided n)

  first-refused : LengthRight rules → FirstBad (rows_of rules) → (fault : Refused) × TableRefused rules fault
  first-refused lengths first =
      ⊎_elim
      (λ wrong. (refused (Row first.row), two lengths first.row first.within first.below wrong))
      (λ wrong. (refused (Limits first.row), three lengths first.row first.within first.below wrong.0 wrong.1))
      first.bad

  pub table_decided : TableRight rules ⊎ ((fault : Refused) × TableRefused rules fault)
  table_decided =
      ⊎_elim
      (λ lengths.
      ⊎_map (λ rows. record { lengths = lengths; rows = rows }) (first-refused lengths) (rows_decided (rows_of rules)))
      (λ wrong. inr (refused Length, one wrong))
      (tells_decided (length_told rules))

-- What the table alone needs of a store, whatever the list: it is right, and the store has its need.
pub record TableRoom (rules : List ℕ) (size : ℕ) : Type 0 where
  pub right : TableRight rules
  pub room : need_of rules ≤ size

pub room_of : {setup : Setup} {size : ℕ} → Ready setup size → TableRoom setup.table size
room_of ready = record { right = ready.right; room = ready.room }

pub ready_of_lem : {setup : Setup} {size : ℕ} → ListServes setup.table setup.list → TableRoom setup.table size → Ready setup size
ready_of_lem listed room = record { right = room.right; listed = listed; room = room.room }

-- With a list and a store of a size.
module _ (setup : Setup) (size : ℕ) where
  -- What is left to decide of a list that serves the table.
  pub listed-passes : TableRight setup.table
      → ListServes setup.table setup.list
      → with_reached setup.table setup.list (with_list setup.list (check_of setup.table))
      ≡ passed (rows_of setup.table) (need_of setup.table)
  listed-passes right listed =
      rw (
        table-passes setup.table right,
        told_true (list-told setup.table setup.list) listed.right,
        none_dead setup.table setup.list right listed.right listed.reached,
        le-ltb (rows_of setup.table) (rows_of setup.table) (omega arith),
      )

  pub start-refuses : (fault : Refused) → StartRefused setup size fault → ready_of setup size ≡ refused_by fault
  unfolding ready_of
  start-refuses fault (table wrong) = rw (table-refuses setup.table fault wrong)
  start-refuses _ (ten right wrong) = rw (table-passes setup.table right, told_false (list-told setup.table setup.list) wrong)
  start-refuses _ (eleven right listed r lower reached dead) =
      rw (
        table-passes setup.table right,
        told_true (list-told setup.table setup.list) listed,
        dead_is setup.table setup.list right listed r lower reached dead,
        lt-ltb r (rows_of setup.table) lower,
      )
  start-refuses _ (four right listed short) =
      rw (listed-passes right listed, lt-leb (need_of setup.table) size short)

  pub start-passes : Ready setup size → ready_of setup size ≡ passed (rows_of setup.table) (need_of setup.table)
  unfolding ready_of
  start-passes ready = rw (listed-passes ready.right ready.listed, le-leb (need_of setup.table) size ready.room)

  pub start_decided : Ready setup size ⊎ ((fault : Refused) × StartRefused setup size fault)
  start_decided =
      ⊎_elim
      (λ right.
      ⊎_elim
      (λ listed.
      ⊎_elim
      (λ reached.
      let serves : ListServes setup.table setup.list = record { right = listed; reached = reached } in
      ⊎_map
      (λ room. record { right = right; listed = serves; room = room })
      (λ short. (refused Store, four right serves short))
      (le_or_lt (need_of setup.table) size))
      (λ lowest.
      inr (refused (DeadRow lowest.row), eleven right listed lowest.row lowest.within lowest.below lowest.dead))
      (reached_decided setup.table setup.list right listed))
      (λ wrong. inr (refused RowList, ten right wrong))
      (tells_decided (list-told setup.table setup.list)))
      (λ wrong. inr (wrong.0, table wrong.1))
      (table_decided setup.table)
