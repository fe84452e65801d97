-- A refused line leaves the state, so it can be left out; what is written for lines is what they are told; and a text without some of its lines has
-- the others as its lines.
use mathlib.Core.Bool.{false}
use mathlib.Core.List.{List, [], ◌∷◌, ◌++◌, map, flatten, append-nil}
use mathlib.Core.Path.{◌≡◌, refl, sym, ap, ◌∙◌}
use Prim.Native.Nat.{ℕ}
use native.Mathlib.Omega.{arith}
use lib.ListN.{length, drop, drop_of_length-le}
use lib.Seq.{take-length}
use Rattle.rules.specs.Stretches.{need_of}
use Rattle.lines.specs.Read.{LineReply, at_end, good_line, bad_line}
use Rattle.lines.specs.Frame.{read_frame}
use Rattle.lines.specs.Lines.{lines_of}
use Rattle.soundness.specs.Record.{clock_of}
use Rattle.soundness.specs.Setup.{Setup}
use Rattle.monitor.specs.Step as step
use Rattle.monitor.specs.Step.{frame_of, Reply}
use Rattle.promises.specs.Stream.{State, call, next, after, Starts, started}
use Rattle.promises.specs.LeftOut.{Machine, answers, Unchanged}
use Rattle.promises.specs.TextAsIfNotMade as made
use Rattle.promises.specs.TextAsIfNotMade.{Reading, read, replied, answer_to, left_by}
use Rattle.promises.proofs.LeftOut.{left_out}
use Rattle.promises.proofs.TextAsIfNotMade.{text_as_if_not_made}
use Rattle.text.specs.Replies.{need_line}
use Rattle.text.specs.Transcript.{empty_store, Running, reply_of, frame_reply, frame_leaves, frames_from, transcript}
use Rattle.text_promises.specs.Meaning.{RulesThen, empty_line, list_line, rule_line}
use Rattle.text_promises.specs.TextGoesOn.{read_alone, Told, frame_lines, shown, output_of, told, unrefused_lines, WithoutRefused, TextGoesOn}
use Rattle.text_promises.proofs.Meaning.{frames_follow}
use Rattle.text_promises.proofs.JoinedLaws.{flatten_append, lines-joined, AreLines, joined-lines, text-lines}
use Rattle.text_promises.proofs.JoinedLaws.{no_others, others-lines, rest_lines, lines_then}

-- A refused line leaves the state.
refused-left : (setup : Setup) (s : State) (line : List ℕ)
    → made.unrefused (made.answer s (read_alone setup s line)) ≡ false
    → made.left_after s (read_alone setup s line) ≡ s
refused-left setup s line refused = go (read (read_alone setup s line)).said refl
  where
    go : (said : LineReply) → (read (read_alone setup s line)).said ≡ said → made.left_after s (read_alone setup s line) ≡ s
    go at_end e = ap (left_by s (read_alone setup s line)) e
    go (good_line given) e = (text_as_if_not_made.refused-frame s (read_alone setup s line) given e refused).state
    go (bad_line fault) e = (text_as_if_not_made.refused-line s (read_alone setup s line) fault e).state

lines_go_on : (setup : Setup) (s : State) (lines : List (List ℕ)) → Unchanged (frame_lines setup) s lines
lines_go_on setup = left_out (frame_lines setup) (refused-left setup)

-- One line of the transcript.
abbrev running : Setup → State → Running
running setup s = record { setup = setup; found = s.found; store = s.store }

reply-shown : (time : ℕ) (reply : Reply) → reply_of time reply ≡ shown (replied reply) time
reply-shown time (step.verdict number) = refl
reply-shown time step.clock_moved = refl
reply-shown time (step.refusal fault) = refl

module _ (setup : Setup) (s : State) (line : List ℕ) where
  abbrev r : Reading
  r = read_alone setup s line

  line-shown : (said : LineReply) → frame_reply (running setup s) said ≡ shown (answer_to s r said) (clock_of (left_by s r said).found)
  line-shown at_end = refl
  line-shown (good_line given) =
      rw (take-length s.store) (reply-shown (clock_of (next setup s (frame_of given)).found) (call setup s (frame_of given)).reply)
  line-shown (bad_line fault) = refl

  line-left : (said : LineReply) → frame_leaves (running setup s) said ≡ running setup (left_by s r said)
  line-left at_end = refl
  line-left (good_line given) =
      let none : drop (length s.store) s.store ≡ [] = drop_of_length-le s.store {i = length s.store} (omega arith) in
      rw (take-length s.store, none, append-nil)
  line-left (bad_line fault) = refl

-- The frames' lines: what is written for them is what they are told.
abbrev shown_all : List Told → List ℕ
shown_all tolds = flatten (map (λ (told : Told). shown told.answer told.time) tolds)

frames_told : (setup : Setup) (s : State) (lines : List (List ℕ))
    → frames_from (running setup s) lines ≡ shown_all (answers (frame_lines setup) s lines)
unfolding frames_from answers flatten
frames_told setup s [] = refl
frames_told setup s (line ∷ lines) =
    let said : LineReply = (read_frame line 0).said in
    rw (line-shown setup s line said, line-left setup s line said, frames_told setup (made.left_after s (read_alone setup s line)) lines)

-- A text whose rules make a table and a list that start.
told-output : (text : List ℕ) (setup : Setup) (lines : List (List ℕ))
    → RulesThen [] (lines_of text) setup lines
    → Starts setup empty_store
    → transcript text ≡ output_of setup (told setup lines)
unfolding after
told-output text setup lines rules starts =
    frames_follow text setup lines rules starts
    ∙ ap (λ (l : List ℕ). need_line (need_of setup.table) ++ l) (frames_told setup (started setup empty_store) lines)

-- Its lines up to the empty one, which make the same table and list whatever lines follow.
record Split (table : List ℕ) (all : List (List ℕ)) (setup : Setup) (rest : List (List ℕ)) : Type 0 where
  pub heads : List (List ℕ)
  pub is : all ≡ heads ++ rest
  pub again : (other : List (List ℕ)) → RulesThen table (heads ++ other) setup other

split : (table : List ℕ) (all : List (List ℕ)) (setup : Setup) (rest : List (List ℕ)) → RulesThen table all setup rest → Split table all setup rest
split table _ _ _ (empty_line {line = line} feed) = record { heads = line ∷ []; is = refl; again = λ other. empty_line feed }
split table _ _ _ (list_line {line = line} {empty = empty} said feed) =
    record { heads = line ∷ empty ∷ []; is = refl; again = λ other. list_line said feed }
split table _ setup rest (rule_line {line = line} {given = given} {lines = lines} other few said more) =
    let s : Split (table ++ given) lines setup rest = split (table ++ given) lines setup rest more in
    record {
      heads = line ∷ s.heads;
      is = ap (λ (l : List (List ℕ)). line ∷ l) s.is;
      again = λ o. rule_line other few said (s.again o);
    }

without_refused : (text : List ℕ) (setup : Setup) (lines : List (List ℕ))
    → RulesThen [] (lines_of text) setup lines
    → Starts setup empty_store
    → WithoutRefused text setup lines
without_refused text setup lines rules starts =
    let m : Machine State (List ℕ) Told = frame_lines setup in
    let s : State = started setup empty_store in
    let kept : List (List ℕ) = unrefused_lines setup lines in
    let apart : Split [] (lines_of text) setup lines = split [] (lines_of text) setup lines rules in
    let heads : List (List ℕ) = apart.heads in
    let all : AreLines (heads ++ lines) = rw apart.is at (text-lines text) in
    let after-empty : AreLines lines = rest_lines heads lines all in
    let others-are : AreLines (heads ++ kept) =
    lines_then heads lines kept all (no_others m s lines) (others-lines m s lines after-empty) in
    let still : lines_of (flatten heads ++ flatten kept) ≡ heads ++ kept =
    rw (flatten_append heads kept) at (joined-lines (heads ++ kept) others-are) in
    let again : RulesThen [] (lines_of (flatten heads ++ flatten kept)) setup kept = rw still (apart.again kept) in
    record {
      rules = flatten heads;
      whole = sym (lines-joined text) ∙ ap flatten apart.is ∙ flatten_append heads lines;
      other-lines = again;
      output = told-output text setup lines rules starts;
      other-output = told-output (flatten heads ++ flatten kept) setup kept again starts
          ∙ ap (output_of setup) (lines_go_on setup s lines).same_answers;
    }

pub text_goes_on : TextGoesOn
text_goes_on = record { stream = lines_go_on; text = without_refused }
