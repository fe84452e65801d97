-- A line is read, refused 8 or 9, or not there exactly as document 01 says, and the place moves as it says. The computed tests of a line tell its
-- conditions; what is answered then follows by cases.
use mathlib.Core.Bool.{Bool, true, false, cond, ◌&&◌}
use mathlib.Core.List.{List, [], ◌∷◌}
use mathlib.Core.Logic.{◌⊎◌, ◌↔◌, inl, inr, ⊎_elim}
use mathlib.Core.Path.{◌≡◌, refl, sym, ap, subst, ◌∙◌}
use Prim.Native.Nat.{ℕ, zero, suc, ◌+◌, ◌*◌, ◌-◌, ◌%◌, ◌≤◌, ◌<◌}
use native.Mathlib.Nat.{add-zero}
use native.Mathlib.Omega.{arith}
use borrow.Author.Tests.{le-leb, lt-leb, eq-eqb, ne_eqb}
use lib.Dec.{leb, eqb, eqb-zero-suc, eqb-suc-suc, eqb→eq, eqb_refl}
use lib.ListN.{length, drop, length-drop, get_or-eq_default}
use lib.Seq.{get_or-drop, ext_get_or}
use Rattle.meaning.proofs.SpansLaws.{le_or_lt}
use Rattle.meaning.proofs.Truths.{zero_not_one}
use Rattle.meaning.proofs.Tells.{Tells, tells_leb, tells_eqb, tells_and, tells_or, tells_same, tells_decided, told_true, told_false}
use Rattle.refusals.specs.Refusals.{Refused}
use Rattle.row_list.specs.RowList.{list_limit}
use Rattle.lines.specs.Digits.{byte_at, byte0, byte9, byte_a, byte_f, byte_digits, byte_values, is_digit, digits_at, hex_at}
use Rattle.lines.specs.Line.{line_feed, right_at, sum_at, past_first, past_line_feed, digits_of, line_at, next_place}
use Rattle.lines.specs.Read.{LineReply, at_end, good_line, bad_line, Read, bytes_of, numbers_read, line_reply, read_line}
use Rattle.lines.specs.Frame.{frame_widths, read_frame}
use Rattle.lines.specs.ListLine.{list_marked, list_count, list_at, rows_at, read_list}
use Rattle.lines.specs.Rule.{rule_widths, read_rule}
use Rattle.lines.proofs.DigitLaws.{digits_at-most}
use Rattle.lines.proofs.LineLaws.{next_past}
use Rattle.lines.proofs.ListLaws.{count_most, rows_length, row_at, list-past, rule-past}
use Rattle.promises.specs.Reading.{Digit, number, letter, WellFormed, SumRight, LineRefused, eight, nine, LineGood, SaidExactly}
use Rattle.promises.specs.Reading.{data_bytes, frame_bytes, counter_and_mask, rule_numbers, Marked, RuleRefused, marked, unmarked, RuleGood}
use Rattle.promises.specs.Reading.{list_bytes, ListFormed, ListRefused, bad_form, bad_sum, ListGood, ReadRefusedExactly}
use Rattle.promises.specs.Reading.{NoLineFeed, Past, first, none, line_bytes, PlaceMoves, PlacesMove}

digit_told : (byte : ℕ) → Tells (is_digit byte) (Digit byte)
unfolding is_digit
digit_told byte =
    tells_same
    (⊎_elim (λ h. number h.0 h.1) (λ h. letter h.0 h.1))
    back
    (tells_or (tells_and (tells_leb byte0 byte) (tells_leb byte byte9)) (tells_and (tells_leb byte_a byte) (tells_leb byte byte_f)))
  where
    back : Digit byte → ((byte0 ≤ byte) × (byte ≤ byte9)) ⊎ ((byte_a ≤ byte) × (byte ≤ byte_f))
    back (number low high) = inl (low, high)
    back (letter low high) = inr (low, high)

-- All n bytes at a place are digits.
abbrev Digits : List ℕ → ℕ → ℕ → Type 0
Digits text place n = (i : ℕ) → i < n → Digit (byte_at text (place + i))

digits-told : (text : List ℕ) (place n : ℕ) → Tells (eqb (digits_at text place n) n) (Digits text place n)
unfolding digits_at
digits-told text place zero = record { sound = λ _ i lower. absurd (omega arith); complete = λ _. tt }
digits-told text place (suc n) =
    rw (counted (is_digit (byte_at text place)) (digits_at text (suc place) n))
    (tells_same both all (tells_and (digit_told (byte_at text place)) (digits-told text (suc place) n)))
  where
    counted : (digit : Bool) (more : ℕ) → eqb (cond digit (suc more) 0) (suc n) ≡ (digit && eqb more n)
    counted true more = eqb-suc-suc more n
    counted false more = eqb-zero-suc n

    on : (i : ℕ) → place + suc i ≡ suc place + i
    on i = omega arith

    both : Digit (byte_at text place) × Digits text (suc place) n → Digits text place (suc n)
    both h zero lower = rw (add-zero place) h.0
    both h (suc i) lower = rw (on i) (h.1 i (omega arith))

    all : Digits text place (suc n) → Digit (byte_at text place) × Digits text (suc place) n
    all h = (rw (add-zero place) at (h 0 (omega arith)), λ i lower. rw (on i) at (h (suc i) (omega arith)))

-- How far a line is right tells whether it is right to its end.
full-told : {A : Type 0} (test : Bool) (count n : ℕ) → count ≤ n → Tells test A → Tells (eqb (cond test (n + 1) count) (n + 1)) A
full-told true count n most told = record { sound = λ _. told.sound tt; complete = λ _. eqb_refl (n + 1) }
full-told false count n most told =
    record { sound = λ same. absurd (omega (arith, eqb→eq count (n + 1) same)); complete = λ holds. absurd (told.complete holds) }

-- What the tests of a line of so many data bytes tell.
module _ (bytes : ℕ) (text : List ℕ) (place : ℕ) where
  formed-told : Tells (eqb (right_at text place (digits_of bytes)) (digits_of bytes + 1)) (WellFormed bytes text place)
  unfolding right_at
  formed-told =
      tells_same
      (λ h. record { digits = h.0; fed = h.1 })
      (λ formed. (formed.digits, formed.fed))
      (full-told _ (digits_at text place (digits_of bytes)) (digits_of bytes) (digits_at-most text place (digits_of bytes))
      (tells_and (digits-told text place (digits_of bytes)) (tells_eqb (byte_at text (place + digits_of bytes)) line_feed)))

  sum_told : Tells (eqb (sum_at text place bytes % byte_values) (hex_at text (place + byte_digits * bytes) byte_digits)) (SumRight bytes text place)
  sum_told = tells_eqb _ _

  -- A digit is not missing, so a well formed line is before the end.
  inside : WellFormed bytes text place → place < length text
  inside formed =
      ⊎_elim
      (λ past.
      let missing : byte_at text (place + 0) ≡ 0 = get_or-eq_default text 0 (omega arith) in
      absurd (some_byte (formed.digits 0 (omega arith)) missing))
      (λ within. within)
      (le_or_lt (length text) place)
    where
      some_byte : {byte : ℕ} → Digit byte → ¬ (byte ≡ 0)
      some_byte (number low high) zero-byte = omega arith
      some_byte (letter low high) zero-byte = omega arith

  -- A line of so many bytes read, given its numbers.
  abbrev read_as : List ℕ → Read
  read_as given = record { said = line_reply (line_at text place bytes) given; next = next_place (line_at text place bytes) text place bytes }

  good_as : (given : List ℕ) → WellFormed bytes text place → SumRight bytes text place
      → read_as given ≡ record { said = good_line given; next = place + line_bytes bytes }
  unfolding line_at
  good_as given formed sum = rw (lt-leb (length text) place (inside formed), told_true formed-told formed, told_true sum_told sum)

  refused_as : (given : List ℕ) (fault : Refused) → LineRefused bytes text place fault → (read_as given).said ≡ bad_line fault
  unfolding line_at
  refused_as given _ (eight before wrong) = rw (lt-leb (length text) place before, told_false formed-told wrong)
  refused_as given _ (nine formed wrong) =
      rw (lt-leb (length text) place (inside formed), told_true formed-told formed, told_false sum_told wrong)

-- What a saying means. Where one meaning holds, and each is what is then said, it is said exactly then.
abbrev Meaning : (Wrong : List ℕ → ℕ → Refused → Type 0) (Good : List ℕ → ℕ → List ℕ → Type 0) → List ℕ → ℕ → LineReply → Type 0
Meaning Wrong Good text place at_end = length text ≤ place
Meaning Wrong Good text place (good_line given) = Good text place given
Meaning Wrong Good text place (bad_line fault) = Wrong text place fault

module _ (read : List ℕ → ℕ → Read) (Wrong : List ℕ → ℕ → Refused → Type 0) (Good : List ℕ → ℕ → List ℕ → Type 0) where
  exactly : ((text : List ℕ) (place : ℕ) (said : LineReply) → Meaning Wrong Good text place said → (read text place).said ≡ said)
      → ((text : List ℕ) (place : ℕ) → (said : LineReply) × Meaning Wrong Good text place said)
      → SaidExactly read Wrong Good
  exactly is some =
      record {
        ends = λ text place. means text place at_end;
        refuses = λ text place fault. means text place (bad_line fault);
        reads = λ text place given. means text place (good_line given);
      }
    where
      means : (text : List ℕ) (place : ℕ) (said : LineReply) → ((read text place).said ≡ said) ↔ Meaning Wrong Good text place said
      means text place said =
          let (other, meant) = some text place in
          (λ e. subst (Meaning Wrong Good text place) (sym (is text place other meant) ∙ e) meant, is text place said)

-- A line whose numbers have these widths, and shows these.
module _ (widths : List ℕ) (shows : List ℕ → ℕ → List ℕ) (same : (text : List ℕ) (place : ℕ) → numbers_read text place 0 widths ≡ shows text place) where
  abbrev bytes : ℕ
  bytes = bytes_of widths

  module _ (text : List ℕ) (place : ℕ) where
    good-read : {given : List ℕ}
        → LineGood bytes shows text place given
        → read_line widths text place ≡ record { said = good_line given; next = place + line_bytes bytes }
    good-read good = good_as bytes text place _ good.formed good.sum ∙ rw (same text place, good.shown)

    abbrev LineMeans : LineReply → Type 0
    LineMeans = Meaning (LineRefused bytes) (LineGood bytes shows) text place

    line-said : (said : LineReply) → LineMeans said → (read_line widths text place).said ≡ said
    unfolding line_at
    line-said at_end past = rw (le-leb (length text) place past)
    line-said (good_line given) good = ap (λ (read : Read). read.said) (good-read good)
    line-said (bad_line fault) wrong = refused_as bytes text place (numbers_read text place 0 widths) fault wrong

    line-saying : (said : LineReply) × LineMeans said
    line-saying =
        ⊎_elim
        (λ past. (at_end, past))
        (λ before.
        ⊎_elim
        (λ formed.
        ⊎_elim
        (λ sum. (good_line _, record { formed = formed; sum = sum; shown = refl }))
        (λ wrong. (bad_line _, nine formed wrong))
        (tells_decided (sum_told bytes text place)))
        (λ wrong. (bad_line _, eight before wrong))
        (tells_decided (formed-told bytes text place)))
        (le_or_lt (length text) place)

frame_shows : (text : List ℕ) (place : ℕ) → numbers_read text place 0 frame_widths ≡ counter_and_mask text place
frame_shows text place = rw (add-zero place)

rule_shows : (text : List ℕ) (place : ℕ) → numbers_read text place 0 rule_widths ≡ rule_numbers text place
rule_shows text place = rw (add-zero place)

marked-told : (text : List ℕ) (place : ℕ) → Tells (list_marked text place) (Marked text place)
unfolding list_marked
marked-told text place =
    tells_same
    (λ h. record { first = h.0; second = h.1 })
    (λ mark. (mark.first, mark.second))
    (tells_and (tells_eqb (byte_at text place) byte_a) (tells_eqb (byte_at text (place + 1)) byte_a))

-- A rule line.
module _ (text : List ℕ) (place : ℕ) where
  marked-before : Marked text place → place < length text
  marked-before mark =
      ⊎_elim
      (λ past. let missing : byte_at text place ≡ 0 = get_or-eq_default text 0 past in absurd (omega (arith, mark.first)))
      (λ within. within)
      (le_or_lt (length text) place)

  abbrev RuleMeans : LineReply → Type 0
  RuleMeans = Meaning RuleRefused RuleGood text place

  rule-other : ¬ Marked text place → read_rule text place ≡ read_line rule_widths text place
  rule-other plain = rw (told_false (marked-told text place) plain)

  rule-refused : (fault : Refused) → RuleRefused text place fault → (read_rule text place).said ≡ bad_line fault
  rule-refused _ (marked mark) = rw (told_true (marked-told text place) mark)
  rule-refused fault (unmarked _ plain wrong) =
      ap (λ (read : Read). read.said) (rule-other plain) ∙ line-said rule_widths rule_numbers rule_shows text place (bad_line fault) wrong

  rule-said : (said : LineReply) → RuleMeans said → (read_rule text place).said ≡ said
  rule-said at_end past =
      ap (λ (read : Read). read.said) (rule-other (λ mark. let before = marked-before mark in omega arith))
      ∙ line-said rule_widths rule_numbers rule_shows text place at_end past
  rule-said (good_line given) good =
      ap (λ (read : Read). read.said) (rule-other good.unmarked)
      ∙ line-said rule_widths rule_numbers rule_shows text place (good_line given) good.line
  rule-said (bad_line fault) wrong = rule-refused fault wrong

  rule_saying : (said : LineReply) × RuleMeans said
  rule_saying =
      ⊎_elim
      (λ mark. (bad_line _, marked mark))
      (λ plain. let (said, meant) = line-saying rule_widths rule_numbers rule_shows text place in (said, rule-means plain said meant))
      (tells_decided (marked-told text place))
    where
      rule-means : ¬ Marked text place → (said : LineReply) → LineMeans rule_widths rule_numbers rule_shows text place said → RuleMeans said
      rule-means plain at_end past = past
      rule-means plain (good_line given) good = record { unmarked = plain; line = good }
      rule-means plain (bad_line fault) wrong = unmarked fault plain wrong

-- The digits of a line end at its line feed, so there is one count for a list line.
feed_no_digit : (byte : ℕ) → byte ≡ line_feed → is_digit byte ≡ false
feed_no_digit byte is = told_false (digit_told byte) no_digit
  where
    no_digit : ¬ Digit byte
    no_digit (number low high) = omega arith
    no_digit (letter low high) = omega arith

digits_to_feed : (text : List ℕ) (place n most : ℕ) → n ≤ most → Digits text place n → byte_at text (place + n) ≡ line_feed → digits_at text place most ≡ n
unfolding digits_at
digits_to_feed text place zero zero lower digits fed = refl
digits_to_feed text place zero (suc most) lower digits fed =
    rw (feed_no_digit (byte_at text place) (rw (add-zero place) at fed))
digits_to_feed text place (suc n) zero lower digits fed = absurd (omega arith)
digits_to_feed text place (suc n) (suc most) lower digits fed =
    let next : (i : ℕ) → place + suc i ≡ suc place + i = λ i. omega arith in
    let here : Digit (byte_at text place) = rw (add-zero place) at (digits 0 (omega arith)) in
    let rest : Digits text (suc place) n = λ i low. rw (next i) at (digits (suc i) (omega arith)) in
    rw (told_true (digit_told (byte_at text place)) here)
    (ap suc (digits_to_feed text (suc place) n most (omega arith) rest (rw (next n) at fed)))

-- A list line.
module _ (text : List ℕ) (place : ℕ) where
  abbrev count : ℕ
  count = list_count text place

  abbrev given : List ℕ
  given = rows_at text place count

  list_count_lem : (n : ℕ) → ListFormed n text place → n ≡ count
  unfolding list_count
  list_count_lem n formed =
      let all : digits_at text place (digits_of (list_bytes list_limit)) ≡ digits_of (list_bytes n) =
      digits_to_feed text place (digits_of (list_bytes n)) (digits_of (list_bytes list_limit)) (omega (arith, formed.most)) formed.line.digits formed.line.fed in
      rw all (omega arith)

  head_told : Tells (list_marked text place && leb 1 count) (Marked text place × (1 ≤ count))
  head_told = tells_and (marked-told text place) (tells_leb 1 count)

  list-formed : Marked text place → 1 ≤ count → WellFormed (list_bytes count) text place → ListFormed count text place
  list-formed mark some line = record { least = some; most = count_most text place; marked = mark; line = line }

  list_as : place < length text → Marked text place → 1 ≤ count → read_list text place ≡ read_as (list_bytes count) text place given
  unfolding list_at
  list_as before mark some = rw (lt-leb (length text) place before, told_true head_told (mark, some))

  list-good : {shown : List ℕ} → ListGood text place shown
      → read_list text place ≡ record { said = good_line shown; next = place + line_bytes (list_bytes (length shown)) }
  list-good {shown} good =
      let size : length shown ≡ count = list_count_lem (length shown) good.formed in
      let formed : ListFormed count text place = subst (λ (n : ℕ). ListFormed n text place) size good.formed in
      let sum : SumRight (list_bytes count) text place = subst (λ (n : ℕ). SumRight (list_bytes n) text place) size good.sum in
      let all : shown ≡ given =
      ext_get_or 0 shown given (size ∙ sym (rows_length text place count))
      (λ k below. good.shown k below ∙ sym (row_at text place count k (omega arith))) in
      list_as (marked-before text place formed.marked) formed.marked formed.least
      ∙ good_as (list_bytes count) text place given formed.line sum
      ∙ rw (size, all)

  list-refused : (fault : Refused) → ListRefused text place fault → (read_list text place).said ≡ bad_line fault
  unfolding list_at
  list-refused _ (bad_form before never) =
      ⊎_elim
      (λ head.
      ap (λ (read : Read). read.said) (list_as before head.0 head.1)
      ∙ refused_as (list_bytes count) text place given _ (eight before (λ line. never count (list-formed head.0 head.1 line))))
      (λ not. rw (lt-leb (length text) place before, told_false head_told not))
      (tells_decided head_told)
  list-refused _ (bad_sum n formed wrong) =
      let size : n ≡ count = list_count_lem n formed in
      let formed' : ListFormed count text place = subst (λ (n : ℕ). ListFormed n text place) size formed in
      let wrong' : ¬ SumRight (list_bytes count) text place = subst (λ (n : ℕ). ¬ SumRight (list_bytes n) text place) size wrong in
      ap (λ (read : Read). read.said) (list_as (marked-before text place formed.marked) formed.marked formed'.least)
      ∙ refused_as (list_bytes count) text place given _ (nine formed'.line wrong')

  abbrev ListMeans : LineReply → Type 0
  ListMeans = Meaning ListRefused ListGood text place

  list-said : (said : LineReply) → ListMeans said → (read_list text place).said ≡ said
  unfolding list_at
  list-said at_end past = rw (le-leb (length text) place past)
  list-said (good_line shown) good = ap (λ (read : Read). read.said) (list-good good)
  list-said (bad_line fault) wrong = list-refused fault wrong

  list_saying : (said : LineReply) × ListMeans said
  list_saying =
      ⊎_elim
      (λ past. (at_end, past))
      (λ before.
      ⊎_elim
      (λ head. with-head before head.0 head.1)
      (λ not. (bad_line _, bad_form before (λ n formed. not (formed.marked, subst (λ (n : ℕ). 1 ≤ n) (list_count_lem n formed) formed.least))))
      (tells_decided head_told))
      (le_or_lt (length text) place)
    where
      good : ListFormed count text place → SumRight (list_bytes count) text place → ListGood text place given
      good formed sum =
          let size : count ≡ length given = sym (rows_length text place count) in
          record {
            formed = subst (λ (n : ℕ). ListFormed n text place) size formed;
            sum = subst (λ (n : ℕ). SumRight (list_bytes n) text place) size sum;
            shown = λ k below. row_at text place count k (omega arith);
          }

      with-head : place < length text → Marked text place → 1 ≤ count → (said : LineReply) × ListMeans said
      with-head before mark some =
          ⊎_elim
          (λ line.
          let formed = list-formed mark some line in
          ⊎_elim
          (λ sum. (good_line given, good formed sum))
          (λ wrong. (bad_line _, bad_sum count formed wrong))
          (tells_decided (sum_told (list_bytes count) text place)))
          (λ wrong.
          (bad_line _, bad_form before (λ n formed. wrong (subst (λ (n : ℕ). WellFormed (list_bytes n) text place) (list_count_lem n formed) formed.line))))
          (tells_decided (formed-told (list_bytes count) text place))

pub read_refused_exactly : ReadRefusedExactly
read_refused_exactly =
    record {
      frame = exactly read_frame _ _ (line-said frame_widths counter_and_mask frame_shows) (line-saying frame_widths counter_and_mask frame_shows);
      rule = exactly read_rule _ _ rule-said rule_saying;
      list = exactly read_list _ _ list-said list_saying;
    }

-- Past the first line feed of a list of bytes, and so of a text from a place on.
no_more_feeds : (byte : ℕ) (bytes : List ℕ) (to : ℕ) → ¬ (byte ≡ line_feed) → NoLineFeed bytes 0 to → NoLineFeed (byte ∷ bytes) 0 (suc to)
no_more_feeds byte bytes to other others zero from lower = other
no_more_feeds byte bytes to other others (suc i) from lower = others i (omega arith) (omega arith)

past_more : (byte : ℕ) (bytes : List ℕ) (next : ℕ) → ¬ (byte ≡ line_feed) → Past bytes 0 next → Past (byte ∷ bytes) 0 (suc next)
past_more byte bytes next other (first feed from fed others e) =
    first (suc feed) (omega arith) fed (no_more_feeds byte bytes feed other others) (omega arith)
past_more byte bytes next other (none others e) = none (no_more_feeds byte bytes (length bytes) other others) (omega arith)

first_past : (bytes : List ℕ) → Past bytes 0 (past_first bytes)
unfolding past_first
first_past [] = none (λ i from lower. absurd (omega arith)) refl
first_past (byte ∷ bytes) =
    ⊎_elim
    (λ fed. rw (eq-eqb byte line_feed fed) (first 0 (omega arith) fed (λ i from lower. absurd (omega arith)) (omega arith)))
    (λ other. rw (ne_eqb byte line_feed other) (past_more byte bytes (past_first bytes) other (first_past bytes)))
    (tells_decided (tells_eqb byte line_feed))

module _ (text : List ℕ) (place : ℕ) where
  no_feeds_from : (to : ℕ) → NoLineFeed (drop place text) 0 to → NoLineFeed text place (place + to)
  no_feeds_from to others i from lower fed =
      let same : place + (i - place) ≡ i = omega arith in
      others (i - place) (omega arith) (omega arith) (get_or-drop place text (i - place) 0 ∙ rw same fed)

  past-from : (next : ℕ) → place ≤ length text → Past (drop place text) 0 next → Past text place (place + next)
  past-from next within (first feed from fed others e) =
      first (place + feed) (omega arith) (sym (get_or-drop place text feed 0) ∙ fed) (no_feeds_from feed others) (omega arith)
  past-from next within (none others e) =
      let size : place + length (drop place text) ≡ length text = omega (arith, length-drop place text) in
      none (subst (NoLineFeed text place) size (no_feeds_from (length (drop place text)) others)) (omega arith)

  past_line_feed_lem : place ≤ length text → Past text place (past_line_feed text place)
  unfolding past_line_feed
  past_line_feed_lem within = past-from (past_first (drop place text)) within (first_past (drop place text))

-- Where the place moves, by what is said.
moves : {read : List ℕ → ℕ → Read} {Wrong : List ℕ → ℕ → Refused → Type 0} {Good : List ℕ → ℕ → List ℕ → Type 0} (size : List ℕ → ℕ)
    → SaidExactly read Wrong Good
    → (text : List ℕ) (place : ℕ)
    → (length text ≤ place → (read text place).next ≡ place)
    → ((given : List ℕ) → Good text place given → (read text place).next ≡ place + size given)
    → (place < length text → (read text place).next ≡ past_line_feed text place)
    → PlaceMoves read size text place
moves size said text place stays on past =
    record {
      ended = λ e. stays ((said.ends text place).0 e);
      good = λ given e. on given ((said.reads text place given).0 e);
      refused = λ fault e.
          ⊎_elim
          (λ ended. let other = sym ((said.ends text place).1 ended) ∙ e in absurd (zero_not_one cc))
          (λ before. rw (past before) (past_line_feed_lem text place (omega arith)))
          (le_or_lt (length text) place);
    }

module _ (text : List ℕ) (place : ℕ) where
  pub places_move : PlacesMove text place
  unfolding line_at list_at
  places_move =
      record {
        frame =
            moves _ read_refused_exactly.frame text place
            (λ past. rw (le-leb (length text) place past))
            (λ given good. ap (λ (read : Read). read.next) (good-read frame_widths counter_and_mask frame_shows text place good))
            (next_past text place data_bytes);
        rule =
            moves _ read_refused_exactly.rule text place
            (λ past.
            rw (told_false (marked-told text place) (λ mark. let before = marked-before text place mark in omega arith), le-leb (length text) place past))
            (λ given good.
            ap (λ (read : Read). read.next)
            (rule-other text place good.unmarked ∙ good-read rule_widths rule_numbers rule_shows text place good.line))
            (rule-past text place);
        list =
            moves _ read_refused_exactly.list text place
            (λ past. rw (le-leb (length text) place past))
            (λ given good. ap (λ (read : Read). read.next) (list-good text place good))
            (list-past text place);
      }

  pub place_moves : PlaceMoves read_frame (λ given. frame_bytes) text place
  place_moves = places_move.frame
