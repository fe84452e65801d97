-- The frames' replies tell the meaning: the record and the store between two lines are those of the calls so far, so that each answer is the
-- promised one.
use mathlib.Core.Bool.{true, false}
use mathlib.Core.List.{List, [], ◌∷◌, ◌++◌}
use mathlib.Core.Path.{◌≡◌, refl, ap, ◌∙◌}
use Prim.Native.Nat.{ℕ}
use native.Mathlib.Omega.{arith}
use borrow.Author.Tests.{eq-eqb, ne_eqb, eqb-true, lt-leb}
use lib.Dec.{leb, eqb}
use lib.ListN.{length}
use Rattle.rules.specs.Limits.{row_limit}
use Rattle.rules.specs.Rows.{rows_of}
use Rattle.rules.specs.Stretches.{need_of}
use Rattle.refusals.specs.Refusals.{Refused, refused}
use Rattle.refusals.specs.declared.refusal.Refusal.TheVariants.{BadLine}
use Rattle.lines.specs.Digits.{byte_at, byte_a}
use Rattle.lines.specs.Line.{line_feed}
use Rattle.lines.specs.Read.{LineReply, at_end, good_line, bad_line}
use Rattle.lines.specs.Frame.{read_frame}
use Rattle.lines.specs.Rule.{read_rule}
use Rattle.lines.specs.ListLine.{list_marked, list_at, read_list}
use Rattle.meaning.proofs.Truths.{by_test, and_left}
use Rattle.soundness.specs.Record.{clock_of}
use Rattle.soundness.specs.Setup.{Setup}
use Rattle.monitor.specs.Step.{Call, time_of, frame_of}
use Rattle.promises.specs.Stream.{Starts, after, state, clock, outcome}
use Rattle.promises.proofs.StreamLaws.{one_more}
use Rattle.promises.proofs.CallKept.{call_kept, clock-kept}
use Rattle.promises.proofs.StartRight.{start_ready}
use Rattle.promises.proofs.StreamKept.{stream-kept}
use Rattle.promises.proofs.Verdicts.{truths_are_meaning, verdict_is_meaning}
use Rattle.lines.specs.Lines.{lines_of}
use Rattle.text.specs.Replies.{need_line}
use Rattle.text.specs.Transcript.{empty_store, Running, reply_of, frame_reply, frame_leaves, frames_from, setup_then, rules_from, transcript}
use Rattle.text_promises.specs.Meaning.{FrameMeant, LineMeant, calls_after, LinesMeant, RulesThen, empty_line, list_line, rule_line}
use Rattle.text_promises.specs.Meaning.{TranscriptTellsTheMeaning}

-- What the monitor has after the calls so far.
abbrev pub running_after : Setup → List Call → Running
running_after setup calls =
    record { setup = setup; found = (state setup empty_store calls).found; store = (state setup empty_store calls).store }

leaves-more : (setup : Setup) (calls : List Call) (said : LineReply)
    → frame_leaves (running_after setup calls) said ≡ running_after setup (calls_after calls said)
leaves-more setup calls at_end = refl
leaves-more setup calls (good_line given) = rw (one_more setup empty_store calls (frame_of given)).left
leaves-more setup calls (bad_line fault) = refl

frame_meant : (setup : Setup) (calls : List Call) (c : Call) → Starts setup empty_store
    → FrameMeant setup calls c (reply_of (clock_of (outcome setup empty_store calls c).left) (outcome setup empty_store calls c).reply)
frame_meant setup calls c starts =
    let answered = (truths_are_meaning setup empty_store starts calls).answered c in
    let before = stream-kept setup empty_store starts calls in
    let listed = (start_ready setup empty_store starts).listed in
    record {
      judged = λ keeps no-beat.
          let told = answered.judged keeps no-beat in
          let time : clock_of (outcome setup empty_store calls c).left ≡ time_of (clock calls) c = (call_kept listed before c keeps no-beat).time in
          (told.0, rw (told.1, time), verdict_is_meaning setup empty_store starts calls c told.0 told.1);
      moved = λ keeps beat.
          let time : clock_of (outcome setup empty_store calls c).left ≡ time_of (clock calls) c = (clock-kept listed before c keeps beat).time in
          rw (answered.moved keeps beat, time);
      late = λ over. ap (reply_of (clock_of (outcome setup empty_store calls c).left)) (answered.late over);
    }

line_meant : (setup : Setup) (calls : List Call) (said : LineReply)
    → Starts setup empty_store
    → LineMeant setup calls said (frame_reply (running_after setup calls) said)
line_meant setup calls at_end starts = refl
line_meant setup calls (good_line given) starts = frame_meant setup calls (frame_of given) starts
line_meant setup calls (bad_line fault) starts = refl

frames_meant : (setup : Setup) (calls : List Call) (lines : List (List ℕ))
    → Starts setup empty_store
    → LinesMeant setup calls lines (frames_from (running_after setup calls) lines)
unfolding LinesMeant frames_from
frames_meant setup calls [] starts = refl
frames_meant setup calls (line ∷ lines) starts =
    let said : LineReply = (read_frame line 0).said in (
      frame_reply (running_after setup calls) said,
      frames_from (frame_leaves (running_after setup calls) said) lines,
      refl,
      line_meant setup calls said starts,
      rw (leaves-more setup calls said) (frames_meant setup (calls_after calls said) lines starts),
    )

-- A good rule line does not begin with the mark, and a good list line does.
not_good : (fault : Refused) (given : List ℕ) → bad_line fault ≡ good_line given → ⊥
not_good fault given is = let z : ◌≡◌ {A = ℕ} 0 1 = cc in omega arith

module _ (line given : List ℕ) where
  rule-unmarked : (read_rule line 0).said ≡ good_line given → list_marked line 0 ≡ false
  rule-unmarked said = by_test (list_marked line 0) (λ is. absurd (not_good (refused BadLine) given (rw is at said))) (λ not. not)

  list-marked : (read_list line 0).said ≡ good_line given → list_marked line 0 ≡ true
  unfolding list_at
  list-marked said =
      by_test (list_marked line 0) (λ is. is)
      (λ not.
      by_test (leb (length line) 0)
      (λ ends. let z : ◌≡◌ {A = ℕ} 0 1 = cc in absurd (omega arith))
      (λ some. absurd (not_good (refused BadLine) given (rw (some, not) at said))))

  list-other : (read_list line 0).said ≡ good_line given → eqb (byte_at line 0) line_feed ≡ false
  unfolding list_marked
  list-other said =
      let mark : byte_at line 0 ≡ byte_a = eqb-true _ _ (and_left (eqb (byte_at line 0) byte_a) (eqb (byte_at line 1) byte_a) (list-marked said)) in
      ne_eqb (byte_at line 0) line_feed (λ feed. omega arith)

-- Good lines up to the empty one bring the table and the list to it.
rules-then : (table : List ℕ) (lines : List (List ℕ)) (setup : Setup) (rest : List (List ℕ))
    → RulesThen table lines setup rest
    → rules_from table lines ≡ setup_then setup rest
unfolding rules_from
rules-then table _ _ _ (empty_line {line = line} feed) = rw (eq-eqb (byte_at line 0) line_feed feed)
rules-then table _ _ _ (list_line {line = line} {given = given} {empty = empty} said feed) =
    rw (list-other line given said, list-marked line given said, said, eq-eqb (byte_at empty 0) line_feed feed)
rules-then table _ setup rest (rule_line {line = line} {given = given} {lines = lines} other few said more) =
    rw (ne_eqb (byte_at line 0) line_feed other, lt-leb row_limit (rows_of table) few, said, rule-unmarked line given said)
    (rules-then (table ++ given) lines setup rest more)

-- What is written after them: the need, and the frames' replies from the start.
pub frames_follow : (text : List ℕ) (setup : Setup) (lines : List (List ℕ))
    → RulesThen [] (lines_of text) setup lines
    → Starts setup empty_store
    → transcript text ≡ need_line (need_of setup.table) ++ frames_from (running_after setup []) lines
unfolding setup_then transcript after
frames_follow text setup lines rules starts = rules-then [] (lines_of text) setup lines rules ∙ rw starts

pub transcript_tells_the_meaning : TranscriptTellsTheMeaning
transcript_tells_the_meaning text setup lines rules starts =
    (frames_from (running_after setup []) lines, frames_follow text setup lines rules starts, frames_meant setup [] lines starts)
