-- What is read at a place is what the rest of the text begins with, and the next place is past its first line feed.
use mathlib.Core.List.{List}
use mathlib.Core.Path.{◌≡◌, sym, ap, ◌∙◌}
use Prim.Native.Nat.{ℕ, suc, ◌+◌, ◌≤◌, ◌<◌}
use native.Mathlib.Omega.{arith}
use borrow.Author.Tests.{le-leb, lt-leb}
use lib.Dec.{leb}
use lib.ListN.{length, drop, length-drop, get_or-eq_default}
use lib.Seq.{get_or-drop}
use Rattle.std.specs.Prelude.{Option, Some, None, Result, Ok, MatchOption, IfOk}
use Rattle.std.proofs.lemmas.Option.{MatchOption-at_some}
use Rattle.refusals.specs.declared.refusal.Refusal.{Refusal}
use Rattle.meaning.proofs.Truths.{by_test}
use Rattle.row_list.specs.declared.list.RowList.{RowList}
use Rattle.row_list.specs.RowList.{list_limit}
use Rattle.lines.specs.Digits.{byte_at}
use Rattle.lines.specs.Line.{past_line_feed, digits_of, line_at}
use Rattle.lines.specs.Read.{LineReply, at_end, Read, bytes_of, read_line, found_said}
use Rattle.lines.specs.ListLine.{list_marked, mark_bytes, list_at, list_of, rows_said, read_list}
use Rattle.lines.specs.Rule.{rule_widths, read_rule}
use Rattle.lines.proofs.LineLaws.{past_end, next_past}
use Rattle.lines.proofs.ListLaws.{list-past, rule-past}
use Rattle.lines.proofs.AgreeLaws.{line_agree, numbers_agree, marked_agree, list_agree, rows_agree}

abbrev pub ended : ℕ → Read
ended place = record { said = at_end; next = place }

-- What a line that says this leaves: the place past it.
abbrev pub moved : List ℕ → ℕ → LineReply → Read
moved text place said = record { said = said; next = past_line_feed text place }

same_read : (read other : Read) → read.said ≡ other.said → read.next ≡ other.next → read ≡ other
same_read read other said next = λ i. record { said = said i; next = next i }

module _ (text : List ℕ) (place : ℕ) (past : length text ≤ place) where
  pub line_ends : (widths : List ℕ) → read_line widths text place ≡ ended place
  unfolding line_at
  line_ends widths = rw (le-leb _ _ past)

  pub rule_ends : read_rule text place ≡ ended place
  unfolding list_marked
  rule_ends =
      let missing : byte_at text place ≡ 0 = get_or-eq_default text 0 past in
      rw missing (line_ends rule_widths)

  pub list_ends : read_list text place ≡ ended place
  unfolding list_at
  list_ends = rw (le-leb _ _ past)

module _ (text : List ℕ) (place : ℕ) (within : place < length text) where
  abbrev rest : List ℕ
  rest = drop place text

  same : (limit i : ℕ) → i < limit → byte_at text (place + i) ≡ byte_at rest i
  same limit i below = sym (get_or-drop place text i 0)

  ends : leb (length text) place ≡ leb (length rest) 0
  ends = lt-leb _ _ within ∙ sym (lt-leb _ _ (rw length-drop (omega arith)))

  line_said : (widths : List ℕ) → (read_line widths text place).said ≡ (read_line widths rest 0).said
  line_said widths =
      let limit : ℕ = suc (digits_of (bytes_of widths)) in
      rw (
        line_agree text rest place limit (same limit) (bytes_of widths) (omega arith) ends,
        numbers_agree text rest place limit (same limit) 0 widths (omega arith),
      )

  pub line-here : (widths : List ℕ) → read_line widths text place ≡ moved text place (read_line widths rest 0).said
  line-here widths = same_read _ _ (line_said widths) (next_past text place (bytes_of widths) within)

  pub rule-here : read_rule text place ≡ moved text place (read_rule rest 0).said
  rule-here =
      let marked : list_marked text place ≡ list_marked rest 0 = marked_agree text rest place 2 (same 2) (omega arith) in
      same_read _ _
      (rw marked (by_test (list_marked rest 0) (λ is. rw is) (λ other. rw other (line_said rule_widths))))
      (rule-past text place within)

  pub list-here : read_list text place ≡ moved text place (read_list rest 0).said
  list-here =
      let limit : ℕ = suc (digits_of (mark_bytes + list_limit)) in
      same_read _ _
      (rw (list_agree text rest place limit (same limit) (omega arith) ends, rows_agree text rest place limit (same limit) (omega arith)))
      (list-past text place within)

-- What is found at a place, given what a format reads of bytes: it read what is left.
module _ {A : Type 0} (numbers : A → List ℕ) (reads : List ℕ → LineReply) (text : List ℕ) (place : ℕ) (read : Read)
    (ends : length text ≤ place → read ≡ ended place) (here : place < length text → read ≡ moved text place (reads (drop place text))) where
  pub found_here : (found : Option (Result A Refusal)) (next : ℕ) (Made : Result A Refusal → Type 0) → next ≡ past_line_feed text place
      → MatchOption found (length text ≤ place) (λ line. (place < length text) × Made line)
      → ((line : Result A Refusal) → Made line
      → (bytes : List ℕ) × (bytes ≡ drop place text) × (0 < length bytes → found_said numbers (Some line) ≡ reads bytes))
      → record { said = found_said numbers found; next = next } ≡ read
  found_here None next Made at past told = rw (at, past_end text place past) (sym (ends past))
  found_here (Some line) next Made at made told =
      let read-of = told line made.1 in
      let some : 0 < length (drop place text) = rw length-drop (omega (arith, made.0)) in
      rw (at, read-of.2 (rw read-of.1 some), read-of.1) (sym (here made.0))

-- The list that is found is of the numbers that are said.
pub list_found : (text : List ℕ) (place : ℕ) (found : Option (Result RowList Refusal)) (Made : Result RowList Refusal → Type 0)
    → MatchOption found (length text ≤ place) (λ line. (place < length text) × Made line)
    → ((line : Result RowList Refusal) → Made line
    → (bytes : List ℕ) × (bytes ≡ drop place text) × (0 < length bytes → IfOk line (λ list. list ≡ list_of (rows_said (read_list bytes 0).said))))
    → (list : RowList) → found ≡ Some (Ok list) → list ≡ list_of (rows_said (read_list text place).said)
list_found text place found Made made told list is =
    let line = MatchOption-at_some _ _ (Ok list) is made in
    let read-of = told (Ok list) line.1 in
    let some : 0 < length (drop place text) = rw length-drop (omega (arith, line.0)) in
    rw read-of.1 at (read-of.2 (rw read-of.1 some)) ∙ ap (λ (read : Read). list_of (rows_said read.said)) (sym (list-here text place line.0))
