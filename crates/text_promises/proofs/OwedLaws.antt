-- What is still to be written for the lines to come, from what there is between two lines; and that a line writes its share of it.
use mathlib.Core.List.{List, [], ◌∷◌, ◌++◌, append-nil}
use mathlib.Core.Option.{Option, none, some}
use mathlib.Core.Path.{◌≡◌, refl, sym, ap, ◌∙◌}
use Prim.Native.Nat.{ℕ, ◌+◌, ◌*◌, ◌≤◌, ◌<◌}
use native.Mathlib.Omega.{arith}
use borrow.Author.Tests.{leb-false}
use lib.Dec.{leb, eqb}
use lib.ListN.{length, take}
use lib.Seq.{length-take-le}
use Rattle.rules.specs.Limits.{row_limit, row_numbers}
use Rattle.refusals.specs.Refusals.{Refused}
use Rattle.rules.specs.Rows.{rows_of}
use Rattle.lines.specs.Digits.{byte_at, overwritten}
use Rattle.lines.specs.Line.{line_feed}
use Rattle.lines.specs.Read.{LineReply, at_end, good_line, bad_line, numbers_read}
use Rattle.lines.specs.Frame.{read_frame}
use Rattle.lines.specs.Rule.{rule_widths, read_rule}
use Rattle.lines.specs.ListLine.{list_marked, read_list, list_of}
use Rattle.lines.proofs.ListLaws.{numbers_of_list}
use Rattle.row_list.specs.declared.list.RowList.{RowList}
use Rattle.meaning.proofs.Truths.{by_test}
use Rattle.soundness.specs.Setup.{setup_of}
use Rattle.monitor.specs.Start.{Beginning, start_of}
use Rattle.text.specs.declared.state.Part.{Part}
use Rattle.text.specs.declared.state.Part.TheVariants.{Rules, Listed, Frames, Over}
use Rattle.text.specs.Transcript.{empty_store, frame_leaves, frames_from, begun, setup_then, last_row}
use Rattle.text.specs.Transcript.{listed_from, list_then, rule_fault, with_rule, unless_fault, rules_from}
use Rattle.text.specs.Turn.{Desk, Turn, rows_read, setup_with, running_at, start_turn, start_part, empty_turn}
use Rattle.text.specs.Turn.{rule_turn, list_turn, before_list, after_list, frame_turn, turn_in, line_turn}
use Rattle.lines.proofs.OverLaws.{take_over, length_over}
use Rattle.text.proofs.TurnLaws.{turn-rows}
use Rattle.lines.proofs.AgreeLaws.{rule_by}

abbrev pub owed_in : Part → Desk → List (List ℕ) → List ℕ
owed_in Rules d lines = rules_from (rows_read d) lines
owed_in Listed d lines = listed_from (setup_with d.stage.list d) lines
owed_in Frames d lines = frames_from (running_at d) lines
owed_in Over d lines = []

abbrev pub owed : Desk → List (List ℕ) → List ℕ
owed d lines = owed_in d.stage.part d lines

-- The empty line is still to come.
abbrev Waits : Part → Type 0
Waits Rules = Unit
Waits Listed = Unit
Waits Frames = ⊥
Waits Over = ⊥

-- The rows read fit the table that is lent, and before the empty line the store is as the program lends it.
pub record Right (d : Desk) : Type 0 where
  pub rows : d.stage.rows ≤ row_limit
  pub room : row_limit * row_numbers ≤ length d.table
  pub store : Waits d.stage.part → d.store ≡ empty_store

pub rows-read : (d : Desk) → Right d → rows_of (rows_read d) ≡ d.stage.rows
rows-read d right =
    let rows : d.stage.rows ≤ row_limit = right.rows in
    let room : row_limit * row_numbers ≤ length d.table = right.room in
    let size : length (rows_read d) ≡ d.stage.rows * row_numbers = length-take-le (d.stage.rows * row_numbers) d.table (omega arith) in
    rw size (omega arith)

-- The empty line.
start_owed : (list : RowList) (d : Desk) (lines : List (List ℕ)) (start : Beginning)
    → begun (setup_with list d) lines start ≡ (start_turn list d start).text ++ owed (start_turn list d start).left lines
start_owed list d lines start = by start.refusal refl
  where
    by : (fault : Option Refused) → start.refusal ≡ fault
        → begun (setup_with list d) lines start ≡ (start_turn list d start).text ++ owed (start_turn list d start).left lines
    by none is = rw is
    by (some fault) is = rw is (sym (append-nil _))

empty_owed : (list : RowList) (d : Desk) (lines : List (List ℕ)) → d.store ≡ empty_store
    → setup_then (setup_with list d) lines ≡ (empty_turn list d).text ++ owed (empty_turn list d).left lines
unfolding setup_then
empty_owed list d lines store = rw (← store) (start_owed list d lines (start_of (setup_with list d) d.store))

-- A list line.
list_owed : (d : Desk) (lines : List (List ℕ)) (said : LineReply)
    → list_then (rows_read d) said lines ≡ (list_turn said d).text ++ owed (list_turn said d).left lines
list_owed d lines at_end = sym (append-nil _)
list_owed d lines (good_line given) = rw (numbers_of_list given)
list_owed d lines (bad_line fault) = sym (append-nil _)

-- A rule line.
rule_owed : (d : Desk) (line : List ℕ) (lines : List (List ℕ)) → Right d → d.stage.part ≡ Rules
    → unless_fault d.stage.rows (rule_fault (read_rule line 0).said) (rules_from (with_rule (rows_read d) (read_rule line 0).said) lines)
    ≡ (rule_turn (read_rule line 0).said d).text ++ owed (rule_turn (read_rule line 0).said d).left lines
rule_owed d line lines right part =
    let given : List ℕ = numbers_read line 0 0 rule_widths in
    let place : ℕ = d.stage.rows * row_numbers in
    let rows : d.stage.rows ≤ row_limit = right.rows in
    let room : row_limit * row_numbers ≤ length d.table = right.room in
    let on : (d.stage.rows + 1) * row_numbers ≡ place + length given = omega arith in
    let table : take ((d.stage.rows + 1) * row_numbers) (overwritten d.table place given) ≡ rows_read d ++ given =
    rw on (take_over d.table place (omega arith) given) in
    rule_by
    (λ (said : LineReply). unless_fault d.stage.rows (rule_fault said) (rules_from (with_rule (rows_read d) said) lines)
    ≡ (rule_turn said d).text ++ owed (rule_turn said d).left lines)
    line
    (rw part)
    (rw table)
    (λ fault. sym (append-nil _))

-- A frame's line.
frame-left : (d : Desk) (said : LineReply) → frame_leaves (running_at d) said ≡ running_at (frame_turn said d).left
frame-left d at_end = refl
frame-left d (good_line given) = refl
frame-left d (bad_line fault) = refl

turn_owed_in : (part : Part) (d : Desk) (line : List ℕ) (lines : List (List ℕ)) → Right d → d.stage.part ≡ part
    → owed_in part d (line ∷ lines) ≡ (turn_in part line d).text ++ owed (turn_in part line d).left lines
unfolding rules_from frames_from before_list after_list
turn_owed_in Rules d line lines right part =
    by_test (eqb (byte_at line 0) line_feed)
    (λ empty. rw empty
    (ap (λ (rows : ℕ). setup_then (setup_of (rows_read d) (last_row rows)) lines) (rows-read d right)
    ∙ empty_owed (list_of (last_row d.stage.rows)) d lines (right.store (rw part tt))))
    (λ other. rw (other, rows-read d right)
    (by_test (list_marked line 0)
    (λ marked. rw marked (list_owed d lines (read_list line 0).said))
    (λ rule. rw rule
    (by_test (leb row_limit d.stage.rows)
    (λ all. rw all (sym (append-nil _)))
    (λ fewer. rw fewer (rw rule at (rule_owed d line lines right part)))))))
turn_owed_in Listed d line lines right part =
    by_test (eqb (byte_at line 0) line_feed)
    (λ empty. rw empty (empty_owed d.stage.list d lines (right.store (rw part tt))))
    (λ other. rw other (sym (append-nil _)))
turn_owed_in Frames d line lines right part = rw (frame-left d (read_frame line 0).said)
turn_owed_in Over d line lines right part = rw part

pub turn_owed : (d : Desk) (line : List ℕ) (lines : List (List ℕ)) → Right d
    → owed d (line ∷ lines) ≡ (line_turn line d).text ++ owed (line_turn line d).left lines
turn_owed d line lines right = turn_owed_in d.stage.part d line lines right refl

-- The table keeps its length, and the store is the program's until the empty line.
record Kept (d : Desk) (turn : Turn) : Type 0 where
  pub table : length turn.left.table ≡ length d.table
  pub store : Waits turn.left.stage.part → turn.left.store ≡ empty_store

started : (fault : Option Refused) → Waits (start_part fault) → ⊥
started none waits = waits
started (some fault) waits = waits

empty_kept : (list : RowList) (d : Desk) → Kept d (empty_turn list d)
empty_kept list d =
    record { table = refl; store = λ waits. absurd (started (start_of (setup_with list d) d.store).refusal waits) }

list-kept : (d : Desk) (said : LineReply) → d.store ≡ empty_store → Kept d (list_turn said d)
list-kept d at_end store = record { table = refl; store = λ waits. absurd waits }
list-kept d (good_line given) store = record { table = refl; store = λ waits. store }
list-kept d (bad_line fault) store = record { table = refl; store = λ waits. absurd waits }

rule-kept : (d : Desk) (line : List ℕ) → Right d → d.store ≡ empty_store → d.stage.rows < row_limit → Kept d (rule_turn (read_rule line 0).said d)
rule-kept d line right store below =
    let room : row_limit * row_numbers ≤ length d.table = right.room in
    rule_by (λ (said : LineReply). Kept d (rule_turn said d)) line
    (record { table = refl; store = right.store })
    (record {
      table = length_over d.table (d.stage.rows * row_numbers) (numbers_read line 0 0 rule_widths) (omega arith);
      store = λ waits. store;
    })
    (λ fault. record { table = refl; store = λ waits. absurd waits })

turn_kept_in : (part : Part) (d : Desk) (line : List ℕ) → Right d → d.stage.part ≡ part → Kept d (turn_in part line d)
unfolding before_list after_list
turn_kept_in Rules d line right part =
    let store : d.store ≡ empty_store = right.store (rw part tt) in
    by_test (eqb (byte_at line 0) line_feed)
    (λ empty. rw empty (empty_kept (list_of (last_row d.stage.rows)) d))
    (λ other. rw other
    (by_test (list_marked line 0)
    (λ marked. rw marked (list-kept d (read_list line 0).said store))
    (λ rule. rw rule
    (by_test (leb row_limit d.stage.rows)
    (λ all. rw all (record { table = refl; store = λ waits. absurd waits }))
    (λ fewer. rw fewer (rw rule at (rule-kept d line right store (leb-false _ _ fewer))))))))
turn_kept_in Listed d line right part =
    by_test (eqb (byte_at line 0) line_feed)
    (λ empty. rw empty (empty_kept d.stage.list d))
    (λ other. rw other (record { table = refl; store = λ waits. absurd waits }))
turn_kept_in Frames d line right part = record { table = refl; store = λ waits. absurd waits }
turn_kept_in Over d line right part = record { table = refl; store = right.store }

pub turn-right : (d : Desk) (line : List ℕ) → Right d → Right (line_turn line d).left
turn-right d line right =
    let room : row_limit * row_numbers ≤ length d.table = right.room in
    let kept : Kept d (line_turn line d) = turn_kept_in d.stage.part d line right refl in
    record { rows = turn-rows d line right.rows; room = omega arith; store = kept.store }
