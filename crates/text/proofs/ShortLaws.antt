-- No line that is written is longer than the longest: a piece with room for a line a byte is taken whole.
use mathlib.Core.Option.{Option, none, some}
use mathlib.Core.Bool.{false}
use mathlib.Core.List.{List, [], ◌∷◌}
use mathlib.Core.Path.{◌≡◌, refl}
use Prim.Native.Nat.{ℕ, ◌+◌, ◌-◌, ◌*◌, ◌≤◌, ◌<◌}
use native.Mathlib.Omega.{arith}
use borrow.Author.Tests.{le-ltb}
use lib.Dec.{leb, ltb, eqb}
use lib.ListN.{length, length-append}
use Rattle.rules.specs.Limits.{row_limit, row_numbers}
use Rattle.refusals.specs.Refusals.{Refused, refused}
use Rattle.rules.specs.Stretches.{need_of}
use Rattle.refusals.specs.declared.refusal.Refusal.TheVariants.{Length, RowList}
use Rattle.lines.specs.Digits.{byte_at}
use Rattle.lines.specs.Line.{line_feed}
use Rattle.lines.specs.Read.{LineReply, at_end, good_line, bad_line, read_line}
use Rattle.lines.specs.Frame.{read_frame}
use Rattle.lines.specs.Rule.{rule_widths}
use Rattle.lines.specs.ListLine.{list_marked, read_list, list_of}
use Rattle.row_list.specs.declared.list.RowList as list
use Rattle.meaning.proofs.Truths.{by_test}
use Rattle.lines.proofs.WriteLaws.{length_digits}
use Rattle.soundness.specs.Record.{clock_of}
use Rattle.monitor.specs.Start.{start_of}
use Rattle.monitor.specs.Step.{frame_of, Reply}
use Rattle.monitor.specs.Step as step
use Rattle.text.specs.declared.state.Part.{Part}
use Rattle.text.specs.declared.state.Part.TheVariants.{Rules, Listed, Frames, Over}
use Rattle.text.specs.Replies.{need_digits, time_digits, verdict_digits, longest_reply, reply_line, moved_line, refusal_line, refused_line}
use Rattle.text.specs.Transcript.{Running, frame_judged, reply_of, frame_reply, last_row}
use Rattle.text.specs.Held.{held_line, holding}
use Rattle.text.specs.Turn.{Desk, rows_read, setup_with, running_at, start_text, rule_turn, list_turn, empty_turn, before_list, after_list, turn_in}
use Rattle.text.specs.Feed.{Memory, byte_leaves, byte_text, feed, piece_fed}
use Rattle.text.proofs.WroteLaws.{length_reply}
use Rattle.text.proofs.FeedLaws.{step_ready}

reply_short : (n first m second : ℕ) → n + m < longest_reply → length (reply_line n first m second) ≤ longest_reply
reply_short n first m second fits = rw length_reply (omega arith)

refusal_short : (number row : ℕ) → length (refusal_line number row) ≤ longest_reply
refusal_short number row = simp (length-append, length_digits, length_reply) (omega arith)

refused_short : (fault : Refused) → length (refused_line fault) ≤ longest_reply
refused_short fault = refusal_short fault.number _

start_short : (need : ℕ) (fault : Option Refused) → length (start_text need fault) ≤ longest_reply
start_short need none = reply_short 0 0 need_digits need (omega arith)
start_short need (some fault) = refused_short fault

rule_short : (d : Desk) (said : LineReply) → length (rule_turn said d).text ≤ longest_reply
rule_short d at_end = omega arith
rule_short d (good_line given) = omega arith
rule_short d (bad_line fault) = refusal_short fault.number d.stage.rows

list_short : (d : Desk) (said : LineReply) → length (list_turn said d).text ≤ longest_reply
list_short d at_end = refused_short (refused RowList)
list_short d (good_line given) = omega arith
list_short d (bad_line fault) = refused_short (refused RowList)

empty_short : (list : list.RowList) (d : Desk) → length (empty_turn list d).text ≤ longest_reply
empty_short list d = start_short (need_of (rows_read d)) (start_of (setup_with list d) d.store).refusal

moved_short : (time : ℕ) → length (moved_line time) ≤ longest_reply
unfolding moved_line
moved_short time = simp (length-append, length_digits) (omega arith)

answer_short : (time : ℕ) (reply : Reply) → length (reply_of time reply) ≤ longest_reply
answer_short time (step.verdict number) = reply_short time_digits time verdict_digits number (omega arith)
answer_short time step.clock_moved = moved_short time
answer_short time (step.refusal fault) = refused_short fault

frame_short : (s : Running) (said : LineReply) → length (frame_reply s said) ≤ longest_reply
frame_short s at_end = omega arith
frame_short s (good_line given) = answer_short (clock_of (frame_judged s (frame_of given)).left) (frame_judged s (frame_of given)).reply
frame_short s (bad_line fault) = refused_short fault

turn_short_in : (part : Part) (d : Desk) (line : List ℕ) → length (turn_in part line d).text ≤ longest_reply
unfolding before_list after_list
turn_short_in Rules d line =
    by_test (eqb (byte_at line 0) line_feed) (λ empty. rw empty (empty_short (list_of (last_row d.stage.rows)) d))
    (λ other. rw other
    (by_test (list_marked line 0) (λ marked. rw marked (list_short d (read_list line 0).said))
    (λ rule. rw rule
    (by_test (leb row_limit d.stage.rows) (λ all. rw all (refused_short (refused Length)))
    (λ fewer. rw fewer (rule_short d (read_line rule_widths line 0).said))))))
turn_short_in Listed d line =
    by_test (eqb (byte_at line 0) line_feed) (λ empty. rw empty (empty_short d.stage.list d))
    (λ other. rw other (refused_short (refused RowList)))
turn_short_in Frames d line = frame_short (running_at d) (read_frame line 0).said
turn_short_in Over d line = omega arith

byte_short : (m : Memory) (byte : ℕ) → length (byte_text m byte) ≤ longest_reply
unfolding byte_text
byte_short m byte =
    by_test (eqb byte line_feed) (λ ends. rw ends (turn_short_in m.desk.stage.part m.desk (held_line (holding m.held byte))))
    (λ other. rw other (omega arith))

-- A byte needs no more room than the longest line.
pub feed-all : (m : Memory) (room : ℕ) (piece : List ℕ) → longest_reply * length piece ≤ room → (feed m room piece).used ≡ length piece
unfolding feed
feed-all m room [] roomy = refl
feed-all m room (byte ∷ piece) roomy =
    let short : length (byte_text m byte) ≤ longest_reply = byte_short m byte in
    let free : ltb room longest_reply ≡ false = le-ltb room longest_reply (omega arith) in
    let rest : (feed (byte_leaves m byte) (room - length (byte_text m byte)) piece).used ≡ length piece =
    feed-all (byte_leaves m byte) (room - length (byte_text m byte)) piece (omega arith) in
    rw free (omega arith)

pub step_all : (m : Memory) (room : ℕ) (piece : List ℕ) → m.desk.stage.rows ≤ row_limit → row_limit * row_numbers ≤ length m.desk.table
    → longest_reply * length piece ≤ room → (piece_fed m room piece).used ≡ length piece
step_all m room piece rows size roomy = rw (step_ready m room piece rows size) (feed-all m room piece roomy)
