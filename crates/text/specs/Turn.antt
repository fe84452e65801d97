-- What a whole line brings, by the part of the text that it stands in: what it leaves of the state, the table and the store that are lent, and
-- what is written (document 01, "The program's text"; document 02, E4).
use Rattle.std.specs.Prelude.{cond, List, [], ◌≡◌, ℕ, ◌+◌, ◌*◌, ◌≤◌, leb, eqb, length, take}
use Rattle.std.specs.Prelude as std
use Rattle.std.proofs.Math.Option.{Option, none, some}
use Rattle.rules.specs.Limits.{row_limit, row_numbers}
use Rattle.refusals.specs.Refusals.{Refused, refused}
use Rattle.rules.specs.Stretches.{need_of}
use Rattle.refusals.specs.declared.refusal.Refusal.TheVariants as refusal
use Rattle.lines.specs.Digits.{byte_at, overwritten}
use Rattle.lines.specs.Line.{line_feed}
use Rattle.lines.specs.Read.{LineReply, at_end, good_line}
use Rattle.lines.specs.Read as read
use Rattle.lines.specs.Frame.{read_frame}
use Rattle.lines.specs.ListLine.{list_marked, read_list, list_of}
use Rattle.lines.specs.Rule.{read_rule}
use Rattle.row_list.specs.declared.list.RowList.{RowList}
use Rattle.row_list.specs.RowList.{numbers_of}
use Rattle.soundness.specs.declared.record.Record.{Record}
use Rattle.soundness.specs.Setup.{Setup, setup_of}
use Rattle.monitor.specs.Start.{Beginning, start_of}
use Rattle.text.specs.declared.state.Part.{Part}
use Rattle.text.specs.declared.state.Part.TheVariants.{Rules, Listed, Frames, Over}
use Rattle.text.specs.declared.state.Stage.{Stage}
use Rattle.text.specs.declared.replies.Reply.{Reply}
use Rattle.text.specs.Replies.{need_line, refusal_line, refused_line}
use Rattle.text.specs.Reply.{text_of}
use Rattle.text.specs.Transcript.{Running, frame_reply, frame_leaves, last_row}

-- What there is between two lines: the stage, and what is lent.
pub record Desk : Type 0 where
  pub stage : Stage
  pub table : List ℕ
  pub store : List ℕ

-- What a line leaves, and what is written.
pub record Turn : Type 0 where
  pub left : Desk
  pub text : List ℕ

-- The rows read: the first numbers of the table.
abbrev pub rows_read : Desk → List ℕ
rows_read d = take (d.stage.rows * row_numbers) d.table

-- The stage of so many rows fits the table that is lent.
pub record Room (stage : Stage) (table : List ℕ) : Type 0 where
  pub rows : stage.rows ≤ row_limit
  pub numbers : row_limit * row_numbers ≤ length table

abbrev pub desk : Stage → List ℕ → List ℕ → Desk
desk stage table store = record { stage = stage; table = table; store = store }

-- The rows read, with a list of rows to judge.
abbrev pub setup_with : RowList → Desk → Setup
setup_with list d = setup_of (rows_read d) (numbers_of list)

abbrev pub running_at : Desk → Running
running_at d = record { setup = setup_with d.stage.list d; found = d.stage.found; store = d.store }

abbrev pub staged : Part → ℕ → RowList → Record → Stage
staged part rows list found = record { part = part; rows = rows; list = list; found = found }

-- "After any refusal up to or at the empty line nothing more is written."
abbrev pub refusing : Desk → List ℕ → Turn
refusing d text =
    record { left = desk (staged Over d.stage.rows d.stage.list d.stage.found) d.table d.store; text = text }

-- A good rule line's numbers follow the rows read; "a bad rule line is EE08 or EE09 with its line counted from 00".
abbrev pub rule_turn : LineReply → Desk → Turn
rule_turn at_end d = record { left = d; text = [] }
rule_turn (good_line given) d =
    record {
      left =
          record {
            stage = staged Rules (d.stage.rows + 1) d.stage.list d.stage.found;
            table = overwritten d.table (d.stage.rows * row_numbers) given;
            store = d.store;
          };
      text = [];
    }
rule_turn (read.bad_line fault) d = refusing d (refusal_line fault.number d.stage.rows)

-- "A list line of bad form or sum .. is EE0A00 at once".
abbrev pub refusing_list : Desk → Turn
refusing_list d = refusing d (refused_line (refused refusal.RowList))

abbrev pub list_turn : LineReply → Desk → Turn
list_turn at_end d = refusing_list d
list_turn (good_line given) d =
    record { left = desk (staged Listed d.stage.rows (list_of given) d.stage.found) d.table d.store; text = [] }
list_turn (read.bad_line fault) d = refusing_list d

-- "The table is checked at the empty line; a need over the store gives EE0400 in place of the need."
abbrev pub start_part : Option Refused → Part
start_part none = Frames
start_part (some fault) = Over

abbrev pub start_text : ℕ → Option Refused → List ℕ
start_text need none = need_line need
start_text need (some fault) = refused_line fault

abbrev pub start_turn : RowList → Desk → Beginning → Turn
start_turn list d start =
    record {
      left = desk (staged (start_part start.refusal) d.stage.rows list start.given) d.table start.store;
      text = start_text (need_of (rows_read d)) start.refusal;
    }

-- The empty line: the monitor starts on the rows read, with a list.
abbrev pub empty_turn : RowList → Desk → Turn
empty_turn list d = start_turn list d (start_of (setup_with list d) d.store)

-- "no list means the last row alone"; a list line is not counted among the rows; a line more than the row limit "before the empty one EE0100, whatever it
-- holds".
unfoldable pub before_list : List ℕ → Desk → Turn
before_list line d =
    cond (eqb (byte_at line 0) line_feed) (empty_turn (list_of (last_row d.stage.rows)) d)
    (cond (list_marked line 0) (list_turn (read_list line 0).said d)
    (cond (leb row_limit d.stage.rows) (refusing d (refused_line (refused refusal.Length))) (rule_turn (read_rule line 0).said d)))

-- "any line between it and the empty one, is EE0A00 at once".
unfoldable pub after_list : List ℕ → Desk → Turn
after_list line d = cond (eqb (byte_at line 0) line_feed) (empty_turn d.stage.list d) (refusing_list d)

abbrev pub frame_turn : LineReply → Desk → Turn
frame_turn said d =
    record {
      left =
          record {
            stage = staged Frames d.stage.rows d.stage.list (frame_leaves (running_at d) said).found;
            table = d.table;
            store = (frame_leaves (running_at d) said).store;
          };
      text = frame_reply (running_at d) said;
    }

abbrev pub turn_in : Part → List ℕ → Desk → Turn
turn_in Rules line d = before_list line d
turn_in Listed line d = after_list line d
turn_in Frames line d = frame_turn (read_frame line 0).said d
turn_in Over line d = record { left = d; text = [] }

abbrev pub line_turn : List ℕ → Desk → Turn
line_turn line d = turn_in d.stage.part line d

-- What a line brings, as the code has it: the stage and what is lent are left, and the text is told.
pub record Turned
    (brings : Desk → Turn)
    (stage : Stage) (table store : List ℕ)
    (stage' : Stage) (table' store' : List ℕ) (reply : std.Option Reply) : Type 0 where
  pub left : desk stage' table' store' ≡ (brings (desk stage table store)).left
  pub text : text_of reply ≡ (brings (desk stage table store)).text
