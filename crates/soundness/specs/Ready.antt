-- Refusals 1 to 3, 10, 11 and 4, with which start and every call begin (document 01, "Refusal numbers"; document 02, E4 and E8).
use Rattle.std.specs.Prelude.{cond, List, ◌≡◌, ℕ, ◌≤◌, leb, ltb, Result}
use Rattle.std.proofs.Math.Option.{Option, none, some}
use Rattle.refusals.specs.Refusals.{Refused, refused}
use Rattle.refusals.specs.declared.refusal.Refusal.{Refusal}
use Rattle.refusals.specs.declared.refusal.Refusal.TheVariants.{Store, RowList, DeadRow}
use Rattle.row_list.specs.RowList.{list_passes}
use Rattle.rules.specs.Stretches.{need_of}
use Rattle.rules.specs.Table.{CheckReply, passed, refused_by, check_of, check_reply}
use Rattle.rules.specs.declared.table.Passed.{Passed}
use Rattle.dead_rows.specs.DeadRows.{lowest_dead}
use Rattle.soundness.specs.Setup.{Setup}

-- 10: "Start takes a list of 1 to 16 row numbers, strictly rising, each within the table; otherwise refusal 10 after 3 and before 4", "checked again with
-- each event".
abbrev pub with_list : List ℕ → CheckReply → CheckReply
with_list list (passed rows need) = cond (list_passes list rows) (passed rows need) (refused_by (refused RowList))
with_list list (refused_by fault) = refused_by fault

-- 11: "Refuse a table in which some row is reached from no listed row: refusal 11 with the lowest such row, after 10 and before 4".
abbrev pub with_reached : (table list : List ℕ) → CheckReply → CheckReply
with_reached table list (passed rows need) =
    cond (ltb (lowest_dead table list rows) rows) (refused_by (refused (DeadRow (lowest_dead table list rows)))) (passed rows need)
with_reached table list (refused_by fault) = refused_by fault

-- 4: "store shorter than the need", after the refusals of table and list.
abbrev pub with_room : ℕ → CheckReply → CheckReply
with_room size (passed rows need) = cond (leb need size) (passed rows need) (refused_by (refused Store))
with_room size (refused_by fault) = refused_by fault

-- For a setup and a store of a size: the rows and the need, or a refusal 1 to 3, 10, 11 or 4.
unfoldable pub ready_of : Setup → ℕ → CheckReply
ready_of setup size = with_room size (with_reached setup.table setup.list (with_list setup.list (check_of setup.table)))

-- What `ready` promises: its answer says this.
abbrev pub Readies : Setup → (size : ℕ) → Result Passed Refusal → Type 0
Readies setup size answer = check_reply answer ≡ ready_of setup size

abbrev pub refusal_in : CheckReply → Option Refused
refusal_in (passed rows need) = none
refusal_in (refused_by fault) = some fault

-- What soundness needs of table and store, whatever the list: the table passes and the store has room for its need.
pub record TableReady (table : List ℕ) (size : ℕ) : Type 0 where
  pub passes : refusal_in (check_of table) ≡ none
  pub room : need_of table ≤ size
