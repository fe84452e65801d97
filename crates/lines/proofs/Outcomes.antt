-- Any two outcomes that the contract of a public function allows are the same. What an answer says can be undone, so equal sayings come
-- from equal answers.
use mathlib.Core.Bool.{Bool}
use mathlib.Core.List.{List}
use mathlib.Core.Path.{◌≡◌, refl, sym, ap, ◌∙◌}
use Prim.Native.Nat.{ℕ}
use lib.ListN.{get_or}
use Rattle.std.specs.Prelude.{Option, Some, None, Result, Ok, Err}
use Rattle.meaning.proofs.OneValue.{one_value, one-said}
use Rattle.refusals.specs.declared.refusal.Refusal.{Refusal}
use Rattle.refusals.proofs.Outcomes.{refusal_of, refusal_back}
use Rattle.row_list.specs.declared.list.RowList.{RowList}
use Rattle.row_list.specs.RowList.{numbers_of}
use Rattle.lines.specs.declared.frame.Frame.{Frame}
use Rattle.lines.specs.declared.read.Read as Code
use Rattle.lines.specs.declared.reader.Reader.{Reader}
use Rattle.lines.specs.declared.rule.Rule.{Rule}
use Rattle.lines.specs.Digits.{DigitsWritten}
use Rattle.lines.specs.Read.{LineReply, at_end, good_line, bad_line, Read, found_said, read_said}
use Rattle.lines.specs.Frame.{frame_numbers, ReadsFrame}
use Rattle.lines.specs.Reader.{NextFrame}
use Rattle.lines.specs.ListLine.{list_of, rows_said, read_list, ReadsList}
use Rattle.lines.specs.Rule.{rule_numbers, ReadsRule}

-- What was found, from what is said of it, given what is made of a line's numbers.
abbrev found_back : {A : Type 0} → (List ℕ → A) → LineReply → Option (Result A Refusal)
found_back made at_end = None
found_back made (good_line given) = Some (Ok (made given))
found_back made (bad_line fault) = Some (Err (refusal_of fault))

module _ {A : Type 0} (numbers : A → List ℕ) (made : List ℕ → A) (undone : (line : A) → made (numbers line) ≡ line) where
  found_undone : (found : Option (Result A Refusal)) → found_back made (found_said numbers found) ≡ found
  found_undone None = refl
  found_undone (Some (Ok line)) = ap (λ (l : A). Some (Ok l)) (undone line)
  found_undone (Some (Err refusal)) = ap (λ (r : Refusal). Some (Err r)) (refusal_back refusal)

  one_read : (read : Read) (r r' : Code.Read A) → read_said numbers r ≡ read → read_said numbers r' ≡ read → r ≡ r'
  one_read read =
      one-said (read_said numbers) (λ (s : Read). record { found = found_back made s.said; next = s.next })
      (λ (r : Code.Read A). ap (λ (f : Option (Result A Refusal)). record { found = f; next = r.next }) (found_undone r.found))

abbrev frame_of : List ℕ → Frame
frame_of given = record { counter = get_or given 0 0; mask = get_or given 1 0 }

abbrev rule_of : List ℕ → Rule
rule_of given = record { kind = get_or given 0 0; x = get_or given 1 0; y = get_or given 2 0; a = get_or given 3 0; b = get_or given 4 0 }

-- `lines::frame::read_frame`, and `lines::reader::frame_at`, which promises the same.
pub one-frame : (text : List ℕ) (place : ℕ) (r r' : Code.Read Frame) → ReadsFrame text place r → ReadsFrame text place r' → r ≡ r'
one-frame text place = one_read frame_numbers frame_of (λ frame. refl) _

-- `lines::reader::Reader::next_frame`: what is found, and the reader.
pub one-next : (before : Reader) (found found' : Option (Result Frame Refusal)) (after after' : Reader)
    → NextFrame before found after → NextFrame before found' after' → (found ≡ found') × (after ≡ after')
one-next before found found' after after' h h' =
    let read : Code.Read Frame = record { found = found; next = after.place } in
    let read' : Code.Read Frame = record { found = found'; next = after'.place } in
    let same_read : read ≡ read' = one-frame before.text.now before.place read read' h.read h'.read in
    let same_text : after.text ≡ after'.text = one_value h.text h'.text in
    (ap (λ (r : Code.Read Frame). r.found) same_read, λ i. record { text = same_text i; place = (same_read i).next })

-- `lines::rule::read_rule`.
pub one-rule : (text : List ℕ) (place : ℕ) (r r' : Code.Read Rule) → ReadsRule text place r → ReadsRule text place r' → r ≡ r'
one-rule text place = one_read rule_numbers rule_of (λ rule. refl) _

-- A list that was found is of the numbers that are said.
list_undone : (found : Option (Result RowList Refusal)) (said : LineReply) → found_said numbers_of found ≡ said
    → ((list : RowList) → found ≡ Some (Ok list) → list ≡ list_of (rows_said said)) → found_back list_of said ≡ found
list_undone None said is made = rw (← is)
list_undone (Some (Ok list)) said is made = rw (← is) (ap (λ (l : RowList). Some (Ok l)) (sym (rw (← is) at (made list refl))))
list_undone (Some (Err refusal)) said is made = rw (← is) (ap (λ (r : Refusal). Some (Err r)) (refusal_back refusal))

-- `lines::list::read_list`: what is found, the list in it, and the place.
pub one_list : (text : List ℕ) (place : ℕ) (r r' : Code.Read RowList) → ReadsList text place r → ReadsList text place r' → r ≡ r'
one_list text place r r' h h' =
    let said : LineReply = (read_list text place).said in
    let found : found_back list_of said ≡ r.found = list_undone r.found said (ap (λ (s : Read). s.said) h.said) h.list in
    let found' : found_back list_of said ≡ r'.found = list_undone r'.found said (ap (λ (s : Read). s.said) h'.said) h'.list in
    let same-found : r.found ≡ r'.found = sym found ∙ found' in
    let same-next : r.next ≡ r'.next = ap (λ (s : Read). s.next) (one_value h.said h'.said) in
    λ i. record { found = same-found i; next = same-next i }

-- `lines::digits::write_digits`: the answer, and every byte of what was lent.
pub one_writing : (out : List ℕ) (place n value : ℕ) (done done' : Bool) (after after' : List ℕ)
    → DigitsWritten out place n value done after → DigitsWritten out place n value done' after' → (done ≡ done') × (after ≡ after')
one_writing out place n value done done' after after' h h' = (one_value h.said h'.said, one_value h.bytes h'.bytes)
