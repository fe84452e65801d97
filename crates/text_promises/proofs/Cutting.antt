-- Every cutting of a text is the text: what the bytes taken so far write, and what is still owed for those to come, is the transcript.
use mathlib.Core.Bool.{false, cond}
use mathlib.Core.List.{List, [], ◌∷◌, ◌++◌, append_assoc, append-nil}
use mathlib.Core.Path.{◌≡◌, refl, sym, ap, ◌∙◌}
use Prim.Native.Nat.{ℕ, zero, suc, ◌-◌, ◌*◌, ◌≤◌, ◌<◌}
use native.Mathlib.Omega.{arith}
use borrow.Author.Tests.{eqb-false, ne_eqb, le-ltb}
use lib.Dec.{ltb, eqb, lit<}
use lib.ListN.{length, take, length-take}
use lib.Seq.{get_or-take, take-length}
use native.Mathlib.Numerals.{one-add}
use Rattle.rules.specs.Limits.{row_limit, row_numbers}
use Rattle.lines.specs.Digits.{byte_at}
use Rattle.lines.specs.Line.{line_feed}
use Rattle.lines.specs.Frame.{frame_widths}
use Rattle.meaning.proofs.Truths.{by_test}
use Rattle.lines.specs.ListLine.{list_marked}
use Rattle.lines.proofs.AgreeLaws.{marked-held, said-held, rule-held, list_held, said_cut, rule_cut, list_cut}
use Rattle.text.specs.declared.state.Part.{Part}
use Rattle.text.specs.declared.state.Part.TheVariants.{Rules, Listed, Frames, Over}
use Rattle.lines.specs.Lines.{lines_going_on}
use Rattle.text.specs.Replies.{longest_reply}
use Rattle.text.specs.Transcript.{empty_store, frames_from, rules_from, transcript}
use Rattle.text.specs.Held.{line_limit, held_line, holding}
use Rattle.text.specs.Turn.{Desk, before_list, after_list, turn_in, line_turn}
use Rattle.text.specs.Feed.{Memory, byte_leaves, byte_text, Feeding, feed, memory_of, state_in, fresh, end_text, text_end}
use Rattle.text.specs.Course.{Lent, Course, course, joined}
use Rattle.text_promises.specs.Cutting.{EveryCutting, Roomy, EveryByteTaken, SomeByteTaken}
use Rattle.text.proofs.FeedLaws.{step_ready}
use Rattle.text.proofs.ShortLaws.{feed-all}
use Rattle.text_promises.proofs.HeldLaws.{HoldsLine, holds_line, holds_none, holds_more}
use Rattle.text_promises.proofs.OwedLaws.{owed_in, owed, Right, rows-read, turn_owed, turn-right}

-- The unfinished line after a text that goes on from one.
unfoldable unfinished : List ℕ → List ℕ → List ℕ
unfinished line [] = line
unfinished line (byte ∷ text) = cond (eqb byte line_feed) (unfinished [] text) (unfinished (line ++ (byte ∷ [])) text)

-- What there is between two bytes is right for an unfinished line.
record Stands (m : Memory) (line : List ℕ) : Type 0 where
  pub held : HoldsLine m.held line
  pub free : (i : ℕ) → byte_at line i ≡ line_feed → ⊥
  pub desk : Right m.desk

-- A line as far as it is held brings what the line brings.
turn_held_in : (part : Part) (d : Desk) (line : List ℕ) → turn_in part (take line_limit line) d ≡ turn_in part line d
unfolding before_list after_list
turn_held_in Rules d line =
    rw (
      get_or-take line_limit line 0 0 (lit< tt),
      list_held line_limit line (omega arith),
      rule-held line_limit line (omega arith),
      marked-held line_limit line (omega arith),
    )
turn_held_in Listed d line = rw (get_or-take line_limit line 0 0 (lit< tt))
turn_held_in Frames d line = rw (said-held frame_widths line_limit line (omega arith))
turn_held_in Over d line = refl

turn-held : (m : Memory) (line : List ℕ) (byte : ℕ) → Stands m line
    → line_turn (held_line (holding m.held byte)) m.desk ≡ line_turn (line ++ (byte ∷ [])) m.desk
turn-held m line byte stands =
    let more : HoldsLine (holding m.held byte) (line ++ (byte ∷ [])) = holds_more m.held line byte stands.held in
    ap (λ (l : List ℕ). line_turn l m.desk) (holds_line (holding m.held byte) (line ++ (byte ∷ [])) more)
    ∙ turn_held_in m.desk.stage.part m.desk (line ++ (byte ∷ []))

-- A line stays without a line feed by every other byte.
free_more : (line : List ℕ) (byte : ℕ) → ((i : ℕ) → byte_at line i ≡ line_feed → ⊥) → (byte ≡ line_feed → ⊥)
    → (i : ℕ) → byte_at (line ++ (byte ∷ [])) i ≡ line_feed → ⊥
free_more [] byte free other zero is = other is
free_more [] byte free other (suc i) is = let z : ◌≡◌ {A = ℕ} 0 line_feed = is in omega arith
free_more (first ∷ line) byte free other zero is = free zero is
free_more (first ∷ line) byte free other (suc i) is = free_more line byte (λ j. free (suc j)) other i is

-- What is still to be written for the rest of a text.
abbrev to_come : Memory → List ℕ → List ℕ → List ℕ
to_come m line rest = owed m.desk (lines_going_on line rest)

-- One byte writes its share.
module _ (m : Memory) (line : List ℕ) (byte : ℕ) (stands : Stands m line) where
  byte_owed : (rest : List ℕ) → to_come m line (byte ∷ rest) ≡ byte_text m byte ++ to_come (byte_leaves m byte) (unfinished line (byte ∷ [])) rest
  unfolding lines_going_on byte_text byte_leaves unfinished
  byte_owed rest =
      by_test (eqb byte line_feed)
      (λ ends. rw (ends, turn-held m line byte stands) (turn_owed m.desk (line ++ (byte ∷ [])) (lines_going_on [] rest) stands.desk))
      (λ other. rw other)

  byte_stands : Stands (byte_leaves m byte) (unfinished line (byte ∷ []))
  unfolding byte_leaves unfinished
  byte_stands =
      let more : HoldsLine (holding m.held byte) (line ++ (byte ∷ [])) = holds_more m.held line byte stands.held in
      by_test (eqb byte line_feed)
      (λ ends. rw (ends, turn-held m line byte stands)
      (record {
        held = holds_none (holding m.held byte) more.size;
        free = λ i is. let z : ◌≡◌ {A = ℕ} 0 line_feed = is in omega arith;
        desk = turn-right m.desk (line ++ (byte ∷ [])) stands.desk;
      }))
      (λ other. rw other
      (record { held = more; free = free_more line byte stands.free (eqb-false _ _ other); desk = stands.desk }))

-- A piece, as far as it is taken.
unfinished_more : (line first second : List ℕ) → unfinished line (first ++ second) ≡ unfinished (unfinished line first) second
unfolding unfinished
unfinished_more line [] second = refl
unfinished_more line (byte ∷ first) second =
    by_test (eqb byte line_feed)
    (λ ends. rw ends (unfinished_more [] first second))
    (λ other. rw other (unfinished_more (line ++ (byte ∷ [])) first second))

-- What a feeding brings: its share, for every rest of the text.
record Share (m : Memory) (line taken text : List ℕ) (left : Memory) : Type 0 where
  pub stands : Stands left (unfinished line taken)
  pub text_owed : (rest : List ℕ) → to_come m line (taken ++ rest) ≡ text ++ to_come left (unfinished line taken) rest

share_none : (m : Memory) (line : List ℕ) → Stands m line → Share m line [] [] m
unfolding unfinished
share_none m line stands = record { stands = stands; text_owed = λ rest. refl }

share_more : (m : Memory) (line first text : List ℕ) (between : Memory) (second more : List ℕ) (left : Memory)
    → Share m line first text between → Share between (unfinished line first) second more left
    → Share m line (first ++ second) (text ++ more) left
share_more m line first text between second more left one two =
    record {
      stands = rw (unfinished_more line first second) two.stands;
      text_owed = λ rest.
          let to-come : List ℕ = to_come left (unfinished line (first ++ second)) rest in
          rw (append_assoc first second rest, append_assoc text more to-come, unfinished_more line first second)
          (one.text_owed (second ++ rest) ∙ ap (λ (l : List ℕ). text ++ l) (two.text_owed rest));
    }

byte_share : (m : Memory) (line : List ℕ) (byte : ℕ) → Stands m line → Share m line (byte ∷ []) (byte_text m byte) (byte_leaves m byte)
byte_share m line byte stands = record { stands = byte_stands m line byte stands; text_owed = byte_owed m line byte stands }

feed_share : (m : Memory) (room : ℕ) (line piece : List ℕ) → Stands m line
    → Share m line (take (feed m room piece).used piece) (feed m room piece).text (feed m room piece).left
unfolding feed
feed_share m room line [] stands = share_none m line stands
feed_share m room line (byte ∷ piece) stands =
    by_test (ltb room longest_reply)
    (λ full. rw full (share_none m line stands))
    (λ free. rw (free, one-add (feed (byte_leaves m byte) (room - length (byte_text m byte)) piece).used)
    (share_more m line (byte ∷ []) (byte_text m byte) (byte_leaves m byte) _ _ _ (byte_share m line byte stands)
    (feed_share (byte_leaves m byte) (room - length (byte_text m byte)) (unfinished line (byte ∷ [])) piece (byte_stands m line byte stands))))

course_share : (m : Memory) (line : List ℕ) (lents : List Lent) → Stands m line
    → Share m line (course m lents).taken (course m lents).written (course m lents).left
unfolding course
course_share m line [] stands = share_none m line stands
course_share m line (lent ∷ more) stands =
    let feeding : Feeding = feed m lent.room lent.piece in
    let fed : Share m line (take feeding.used lent.piece) feeding.text feeding.left =
    feed_share m lent.room line lent.piece stands in
    rw (step_ready m lent.room lent.piece stands.desk.rows stands.desk.room)
    (share_more m line _ _ feeding.left _ _ _ fed (course_share feeding.left _ more fed.stands))

-- The text's end. Of a line that is begun something is held.
some-held : (byte : ℕ) (line : List ℕ) → eqb (length (take line_limit (byte ∷ line))) 0 ≡ false
some-held byte line = ne_eqb (length (take line_limit (byte ∷ line))) 0 (λ none. omega (arith, length-take line_limit (byte ∷ line)))

end_owed_in : (part : Part) (d : Desk) (line : List ℕ)
    → Right d
    → ((i : ℕ) → byte_at line i ≡ line_feed → ⊥)
    → owed_in part d (lines_going_on line []) ≡ end_text part d.stage.rows (take line_limit line)
unfolding lines_going_on rules_from frames_from
end_owed_in Rules d [] right free = refl
end_owed_in Rules d (byte ∷ line) right free =
    let other : eqb byte line_feed ≡ false = ne_eqb byte line_feed (free 0) in
    let bytes : 0 < length (byte ∷ line) = omega arith in
    rw (
      other,
      some-held byte line,
      rows-read d right,
      list_cut (byte ∷ line) bytes free,
      rule_cut (byte ∷ line) bytes free,
      marked-held line_limit (byte ∷ line) (omega arith),
    )
    (by_test (list_marked (byte ∷ line) 0) (λ marked. rw marked) (λ rule. rw rule))
end_owed_in Listed d [] right free = refl
end_owed_in Listed d (byte ∷ line) right free = rw (ne_eqb byte line_feed (free 0), some-held byte line)
end_owed_in Frames d [] right free = refl
end_owed_in Frames d (byte ∷ line) right free =
    let bytes : 0 < length (byte ∷ line) = omega arith in
    rw (some-held byte line, said_cut frame_widths (byte ∷ line) bytes free) (append-nil _)
end_owed_in Over d [] right free = refl
end_owed_in Over d (byte ∷ line) right free = refl

end_owed : (m : Memory) (line : List ℕ) → Stands m line → to_come m line [] ≡ text_end (state_in m)
unfolding text_end
end_owed m line stands =
    rw (holds_line m.held line stands.held) (end_owed_in m.desk.stage.part m.desk line stands.desk stands.free)

fresh_stands : (table : List ℕ) → row_limit * row_numbers ≤ length table → Stands (memory_of fresh table empty_store) []
unfolding fresh
fresh_stands table room =
    record {
      held = record { size = refl; count = refl; bytes = refl };
      free = λ i is. let z : ◌≡◌ {A = ℕ} 0 line_feed = is in omega arith;
      desk = record { rows = omega arith; room = room; store = λ waits. refl };
    }

fresh_owed : (table text : List ℕ) → to_come (memory_of fresh table empty_store) [] text ≡ transcript text
unfolding transcript fresh
fresh_owed table text = refl

pub every_cutting : EveryCutting
every_cutting table room lents =
    let m : Memory = memory_of fresh table empty_store in
    let all : Course = course m lents in
    let share : Share m [] all.taken all.written all.left = course_share m [] lents (fresh_stands table room) in
    ap (λ (l : List ℕ). all.written ++ l) (sym (end_owed all.left (unfinished [] all.taken) share.stands))
    ∙ sym (share.text_owed [])
    ∙ ap (to_come m []) (append-nil all.taken)
    ∙ fresh_owed table all.taken

course-all : (m : Memory) (line : List ℕ) (lents : List Lent) → Stands m line → Roomy lents → (course m lents).taken ≡ joined lents
unfolding course
course-all m line [] stands roomy = refl
course-all m line (lent ∷ more) stands roomy =
    let fed = feed_share m lent.room line lent.piece stands in
    rw (step_ready m lent.room lent.piece stands.desk.rows stands.desk.room)
    (rw (feed-all m lent.room lent.piece roomy.0, take-length lent.piece)
    (rw (course-all (feed m lent.room lent.piece).left _ more fed.stands roomy.1)))

pub every_byte_taken : EveryByteTaken
every_byte_taken table room lents roomy = course-all (memory_of fresh table empty_store) [] lents (fresh_stands table room) roomy

pub some_byte_taken : SomeByteTaken
unfolding feed
some_byte_taken m room [] rows size free bytes = absurd (omega arith)
some_byte_taken m room (byte ∷ piece) rows size free bytes =
    rw (step_ready m room (byte ∷ piece) rows size) (rw (le-ltb _ _ free) (omega arith))
