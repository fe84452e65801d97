-- What a line brings, from what the monitor answered; and no line brings more rows than a table may have.
use mathlib.Core.List.{List}
use mathlib.Core.Option.{none}
use mathlib.Core.Path.{◌≡◌, sym, ap, ◌∙◌}
use Prim.Native.Nat.{ℕ, ◌≤◌, ◌<◌}
use native.Mathlib.Omega.{arith}
use borrow.Author.Tests.{leb-false}
use lib.Dec.{leb, eqb}
use Rattle.std.specs.Prelude.{Option, Some, None, Result, Ok, Err}
use Rattle.rules.specs.Limits.{row_limit}
use Rattle.refusals.specs.Refusals.{refused}
use Rattle.refusals.specs.declared.refusal.Refusal.{Refusal}
use Rattle.lines.specs.Digits.{byte_at}
use Rattle.lines.specs.Line.{line_feed}
use Rattle.lines.specs.ListLine.{list_marked, read_list, ReadsList}
use Rattle.lines.specs.Read as read
use Rattle.lines.specs.declared.read.Read as Code
use Rattle.row_list.specs.declared.list.RowList.{RowList}
use Rattle.row_list.specs.RowList.{numbers_of}
use Rattle.lines.specs.Rule.{rule_widths}
use Rattle.soundness.specs.declared.record.Record.{Record}
use Rattle.soundness.specs.Setup.{Setup}
use Rattle.monitor.specs.Start.{start_of, StartGives}
use Rattle.monitor.proofs.StartLaws.{start-need}
use Rattle.text.specs.declared.replies.Reply.{Reply}
use Rattle.text.specs.declared.replies.Reply.TheVariants.{Need}
use Rattle.text.specs.declared.state.Part.{Part}
use Rattle.text.specs.declared.state.Part.TheVariants.{Rules, Listed, Frames, Over}
use Rattle.text.specs.declared.state.Stage.{Stage}
use Rattle.text.specs.Replies.{refused_line}
use Rattle.text.specs.Turn.{Desk, Turn, desk, staged, setup_with, refusing, Turned}
use Rattle.text.specs.Turn.{rule_turn, list_turn, empty_turn, before_list, after_list, turn_in, line_turn}
use Rattle.meaning.proofs.Truths.{by_test}

-- What brings the same from another stage is turned the same.
pub turned_as : (brings other : Desk → Turn) (stage stage-o : Stage) (table store : List ℕ)
    (stage' : Stage) (table' store' : List ℕ) (reply : Option Reply)
    → Turned other stage-o table store stage' table' store' reply
    → brings (desk stage table store) ≡ other (desk stage-o table store)
    → Turned brings stage table store stage' table' store' reply
turned_as brings other stage stage-o table store stage' table' store' reply turned same =
    record { left = rw same turned.left; text = rw same turned.text }

-- What is read of a list line is what was found.
module _ (line : List ℕ) (r : Code.Read RowList) (reads : ReadsList line 0 r) where
  pub list-at_end : r.found ≡ None → (read_list line 0).said ≡ read.at_end
  list-at_end is = sym (ap (λ (x : read.Read). x.said) reads.said) ∙ ap (read.found_said numbers_of) is

  pub list-refused : (found : Result RowList Refusal) (fault : Refusal) → r.found ≡ Some found → found ≡ Err fault
      → (read_list line 0).said ≡ read.bad_line (refused fault)
  list-refused found fault is refusal =
      sym (ap (λ (x : read.Read). x.said) reads.said)
      ∙ ap (read.found_said numbers_of) is
      ∙ ap (λ (f : Result RowList Refusal). read.found_said numbers_of (Some f)) refusal

-- What the empty line brings, from what the start answered.
module _ (stage : Stage) (table store : List ℕ) (answer : Result ℕ Refusal) (given : Record) (store' : List ℕ) where
  abbrev setup : Setup
  setup = setup_with stage.list (desk stage table store)

  pub start-good : StartGives setup store answer given store' → (need : ℕ) → answer ≡ Ok need
      → Turned (λ d. empty_turn d.stage.list d) stage table store
      (staged Frames stage.rows stage.list given) table store' (Some (Need need))
  start-good gives need good =
      let started : (start_of setup store).refusal ≡ none = rw (← gives, good) in
      let answered : (start_of setup store).need ≡ need = rw (← gives, good) in
      record { left = rw (← gives, good); text = rw (started, ← start-need setup store started, answered) }

  pub start-refused : StartGives setup store answer given store' → (fault : Refusal) → answer ≡ Err fault
      → (stage' : Stage) (reply : Option Reply)
      → Turned (λ d. refusing d (refused_line (refused fault))) (staged stage.part stage.rows stage.list given) table store'
      stage' table store' reply
      → Turned (λ d. empty_turn d.stage.list d) stage table store stage' table store' reply
  start-refused gives fault refusal stage' reply turned =
      record { left = turned.left ∙ rw (← gives, refusal); text = turned.text ∙ rw (← gives, refusal) }

-- No line brings more rows than a table may have.
rule-rows : (d : Desk) (given : read.LineReply) → d.stage.rows < row_limit → (rule_turn given d).left.stage.rows ≤ row_limit
rule-rows d read.at_end fewer = omega arith
rule-rows d (read.good_line given) fewer = omega arith
rule-rows d (read.bad_line fault) fewer = omega arith

list-rows : (d : Desk) (given : read.LineReply) → d.stage.rows ≤ row_limit → (list_turn given d).left.stage.rows ≤ row_limit
list-rows d read.at_end most = most
list-rows d (read.good_line given) most = most
list-rows d (read.bad_line fault) most = most

turn_rows_in : (part : Part) (d : Desk) (line : List ℕ) → d.stage.rows ≤ row_limit → (turn_in part line d).left.stage.rows ≤ row_limit
unfolding before_list after_list
turn_rows_in Rules d line most =
    by_test (eqb (byte_at line 0) line_feed) (λ empty. rw empty most)
    (λ more. rw more
    (by_test (list_marked line 0) (λ marked. rw marked (list-rows d (read_list line 0).said most))
    (λ rule. rw rule
    (by_test (leb row_limit d.stage.rows) (λ all. rw all most)
    (λ fewer. rw fewer (rule-rows d (read.read_line rule_widths line 0).said (leb-false _ _ fewer)))))))
turn_rows_in Listed d line most =
    by_test (eqb (byte_at line 0) line_feed) (λ empty. rw empty most) (λ other. rw other most)
turn_rows_in Frames d line most = most
turn_rows_in Over d line most = most

pub turn-rows : (d : Desk) (line : List ℕ) → d.stage.rows ≤ row_limit → (line_turn line d).left.stage.rows ≤ row_limit
turn-rows d line most = turn_rows_in d.stage.part d line most
