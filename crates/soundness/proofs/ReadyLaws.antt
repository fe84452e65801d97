-- What refusals 1 to 3, 10, 11 and 4 leave, where none of them is met.
use mathlib.Core.Bool.{Bool, true, false, cond}
use mathlib.Core.List.{List}
use mathlib.Core.Option.{none}
use mathlib.Core.Path.{◌≡◌, refl, sym}
use Prim.Native.Nat.{ℕ, ◌≤◌, min}
use native.Mathlib.Omega.{arith}
use lib.Dec.{leb, ltb}
use borrow.Author.Tests.{leb-true}
use Rattle.rules.specs.Limits.{row_limit}
use Rattle.rules.specs.Rows.{rows_of}
use Rattle.rules.specs.Stretches.{need_of}
use Rattle.meaning.proofs.Truths.{zero_not_one}
use Rattle.refusals.specs.Refusals.{Refused, refused}
use Rattle.rules.specs.Table.{CheckReply, passed, refused_by, check_of}
use Rattle.refusals.specs.declared.refusal.Refusal.TheVariants.{Store, RowList, DeadRow}
use Rattle.row_list.specs.RowList.{list_passes}
use Rattle.rules.proofs.PassedLaws.{Passed, passed_gives}
use Rattle.dead_rows.specs.DeadRows.{lowest_dead}
use Rattle.soundness.specs.Setup.{Setup, setup_of}
use Rattle.soundness.specs.Ready.{with_list, with_reached, with_room, ready_of, refusal_in, TableReady}

-- The table passes, and the store has room for its need.
pub record Ready (table : List ℕ) (size rows : ℕ) : Type 0 where
  pub passes : Passed table rows (need_of table)
  pub room : need_of table ≤ size

passed_by : (said : CheckReply) → refusal_in said ≡ none → (rows : ℕ) × (need : ℕ) × (said ≡ passed rows need)
passed_by (passed rows need) h = (rows, need, refl)
passed_by (refused_by fault) h = absurd (zero_not_one cc)

pub table_ready : (table : List ℕ) (size : ℕ) → TableReady table size → Ready table size (rows_of table)
table_ready table size h =
    let by = passed_by (check_of table) h.passes in
    let given : Passed table by.0 by.1 = passed_gives table by.0 by.1 by.2 in
    let counted : by.0 ≡ rows_of table = given.counted in
    let needed : by.1 ≡ need_of table = given.needed in
    record { passes = rw (counted, needed) at given; room = h.room }

-- What was said is left where a test is met, or where it is not.
met : (test : Bool) (said : CheckReply) (fault : Refused) {rows need : ℕ} → cond test said (refused_by fault) ≡ passed rows need
    → (test ≡ true) × (said ≡ passed rows need)
met true said fault h = (refl, h)
met false said fault h = absurd (zero_not_one cc)

unmet : (test : Bool) (said : CheckReply) (fault : Refused) {rows need : ℕ} → cond test (refused_by fault) said ≡ passed rows need
    → said ≡ passed rows need
unmet true said fault h = absurd (zero_not_one cc)
unmet false said fault h = h

room_parts : (size rows need : ℕ) (said : CheckReply) → with_room size said ≡ passed rows need → (said ≡ passed rows need) × (need ≤ size)
room_parts size rows need (refused_by fault) h = absurd (zero_not_one cc)
room_parts size rows need (passed r n) h =
    let both = met (leb n size) (passed r n) (refused Store) h in
    let same : n ≡ need = (let said = both.1 in cc) in
    (both.1, omega (arith, leb-true n size both.0))

list_parts : (list : List ℕ) (rows need : ℕ) (said : CheckReply)
    → with_list list said ≡ passed rows need
    → (said ≡ passed rows need) × (list_passes list rows ≡ true)
list_parts list rows need (refused_by fault) h = absurd (zero_not_one cc)
list_parts list rows need (passed r n) h =
    let both = met (list_passes list r) (passed r n) (refused RowList) h in
    let same : r ≡ rows = (let said = both.1 in cc) in
    (both.1, rw same at both.0)

reached_parts : (table list : List ℕ) (rows need : ℕ) (said : CheckReply) → with_reached table list said ≡ passed rows need → said ≡ passed rows need
reached_parts table list rows need (refused_by fault) h = absurd (zero_not_one cc)
reached_parts table list rows need (passed r n) h =
    unmet (ltb (lowest_dead table list r) r) (passed r n) (refused (DeadRow (lowest_dead table list r))) h

-- A table that passes has no more rows than are looked at for a dead one.
pub all_looked_at : (table : List ℕ) {rows need : ℕ} → passed rows need ≡ check_of table → min rows row_limit ≡ rows
all_looked_at table {rows} {need} checked =
    let given : Passed table rows need = passed_gives table rows need (sym checked) in
    omega (arith, given.few-rows)

-- What is left to decide where table and list pass.
pub ready_listed : (table list : List ℕ) (size : ℕ) {rows need dead : ℕ}
    → check_of table ≡ passed rows need
    → list_passes list rows ≡ true
    → dead ≡ lowest_dead table list (min rows row_limit)
    → ready_of (setup_of table list) size ≡ with_room size (cond (ltb dead rows) (refused_by (refused (DeadRow dead))) (passed rows need))
unfolding ready_of
ready_listed table list size {rows} {need} {dead} checked passes told =
    let lowest : lowest_dead table list rows ≡ dead = sym (rw (all_looked_at table (sym checked)) at told) in
    rw (checked, passes, lowest)

-- What is left of all of them: what the check said, and that the store has room.
pub record ReadyParts (setup : Setup) (size rows need : ℕ) : Type 0 where
  pub checked : check_of setup.table ≡ passed rows need
  pub listed : list_passes setup.list rows ≡ true
  pub room : need ≤ size

pub ready_parts : (setup : Setup) (size rows need : ℕ) → ready_of setup size ≡ passed rows need → ReadyParts setup size rows need
unfolding ready_of
ready_parts setup size rows need h =
    let listed : CheckReply = with_list setup.list (check_of setup.table) in
    let rooms = room_parts size rows need (with_reached setup.table setup.list listed) h in
    let reaches = reached_parts setup.table setup.list rows need listed rooms.0 in
    let lists = list_parts setup.list rows need (check_of setup.table) reaches in
    record { checked = lists.0; listed = lists.1; room = rooms.1 }

-- The table passes, the list passes for it, and the store has room.
pub record SetupReady (setup : Setup) (size rows : ℕ) : Type 0 where
  pub table : Ready setup.table size rows
  pub listed : list_passes setup.list rows ≡ true

pub ready_gives : (setup : Setup) (size rows need : ℕ) → ready_of setup size ≡ passed rows need → SetupReady setup size rows
ready_gives setup size rows need h =
    let parts = ready_parts setup size rows need h in
    let given : Passed setup.table rows need = passed_gives setup.table rows need parts.checked in
    let needed : need ≡ need_of setup.table = given.needed in
    record { table = record { passes = rw needed at given; room = omega (arith, parts.room) }; listed = parts.listed }

pub ready_room : (setup : Setup) (size rows need : ℕ) → ready_of setup size ≡ passed rows need → need ≤ size
ready_room setup size rows need h = (ready_parts setup size rows need h).room

pub ready_need : (setup : Setup) (size rows need : ℕ) → ready_of setup size ≡ passed rows need → need ≡ need_of setup.table
ready_need setup size rows need h = (passed_gives setup.table rows need (ready_parts setup size rows need h).checked).needed

-- The same where no refusal is met, with the table's own row count.
pub ready_none : (setup : Setup) (size : ℕ) → refusal_in (ready_of setup size) ≡ none → SetupReady setup size (rows_of setup.table)
ready_none setup size h =
    let by = passed_by (ready_of setup size) h in
    let given : SetupReady setup size by.0 = ready_gives setup size by.0 by.1 by.2 in
    let counted : by.0 ≡ rows_of setup.table = given.table.passes.counted in
    rw counted at given

-- What soundness needs of it.
pub ready_table : (setup : Setup) (size rows need : ℕ) → ready_of setup size ≡ passed rows need → TableReady setup.table size
ready_table setup size rows need h =
    let checked : check_of setup.table ≡ passed rows need = (ready_parts setup size rows need h).checked in
    record { passes = rw checked; room = (ready_gives setup size rows need h).table.room }
