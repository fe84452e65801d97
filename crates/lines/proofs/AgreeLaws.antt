-- What is read of a line depends on its own bytes alone: a line as far as it is held, and a line within a text, read as the line.
use mathlib.Core.Bool.{false, ◌&&◌}
use mathlib.Core.List.{List, [], ◌∷◌}
use mathlib.Core.Path.{◌≡◌, refl, sym, ◌∙◌}
use Prim.Native.Nat.{ℕ, zero, suc, ◌+◌, ◌-◌, ◌*◌, ◌≤◌, ◌<◌}
use native.Mathlib.Omega.{arith}
use borrow.Author.Tests.{lt-leb, ne_eqb, ltb-true, ltb-false}
use lib.Dec.{leb, ltb, eqb}
use lib.ListN.{length, take, drop, replicate, length-drop}
use lib.Seq.{get_or-take, get_or-drop, length-take-le}
use Rattle.std.specs.Prelude.{Some, None, Ok, Err}
use Rattle.refusals.specs.Refusals.{Refused, refused}
use Rattle.refusals.specs.declared.refusal.Refusal.TheVariants.{BadLine}
use Rattle.meaning.proofs.Truths.{and_false}
use Rattle.row_list.specs.RowList.{list_limit}
use Rattle.lines.specs.Digits.{byte_at, byte_digits, digits_at, hex_at}
use Rattle.lines.specs.Line.{line_feed, right_at, sum_at, past_first, past_line_feed, digits_of, Found, line_at}
use Rattle.lines.specs.Read.{LineReply, at_end, good_line, bad_line, bytes_of, numbers_read, line_reply, read_line}
use Rattle.lines.specs.ListLine.{list_marked, mark_bytes, list_count, list_at, rows_at, read_list}
use Rattle.lines.specs.Rule.{rule_widths, read_rule}
use Rattle.meaning.proofs.Truths.{by_test}
use Rattle.lines.proofs.DigitLaws.{digits_at-most}
use Rattle.lines.proofs.LineLaws.{past-most, past-right}
use Rattle.lines.proofs.ListLaws.{count_most}

pub bytes_of_ones : (n : ℕ) → bytes_of (replicate n 1) ≡ n
bytes_of_ones zero = refl
bytes_of_ones (suc n) = let rest : bytes_of (replicate n 1) ≡ n = bytes_of_ones n in omega arith

-- Numbers from a later place on are those from a later offset on.
pub numbers_shift : (text : List ℕ) (place from offset : ℕ) (widths : List ℕ)
    → numbers_read text (place + from) offset widths ≡ numbers_read text place (from + offset) widths
numbers_shift text place from offset [] = refl
numbers_shift text place from offset (width ∷ widths) =
    let here : place + from + offset ≡ place + (from + offset) = omega arith in
    let on : from + offset + byte_digits * width ≡ from + (offset + byte_digits * width) = omega arith in
    rw (here, on, numbers_shift text place from (offset + byte_digits * width) widths)

-- Two texts with the same bytes, the one from a place on, the other from its start.
module _ (first second : List ℕ) (from limit : ℕ) (same : (i : ℕ) → i < limit → byte_at first (from + i) ≡ byte_at second i) where
  digits_agree : (place n : ℕ) → place + n ≤ limit → digits_at first (from + place) n ≡ digits_at second place n
  unfolding digits_at
  digits_agree place zero within = refl
  digits_agree place (suc n) within =
      let on : suc (from + place) ≡ from + suc place = omega arith in
      rw (same place (omega arith), on, digits_agree (suc place) n (omega arith))

  pub hex_agree : (place n : ℕ) → place + n ≤ limit → hex_at first (from + place) n ≡ hex_at second place n
  unfolding hex_at
  hex_agree place zero within = refl
  hex_agree place (suc n) within =
      let on : from + place + n ≡ from + (place + n) = omega arith in
      rw (on, same (place + n) (omega arith), hex_agree place n (omega arith))

  pub sum_agree : (n : ℕ) → byte_digits * n ≤ limit → sum_at first from n ≡ sum_at second 0 n
  unfolding sum_at
  sum_agree zero within = refl
  sum_agree (suc n) within =
      let start : 0 + byte_digits * n ≡ byte_digits * n = omega arith in
      rw (start, sum_agree n (omega arith), hex_agree (byte_digits * n) byte_digits (omega arith))

  right_agree : (n : ℕ) → n < limit → right_at first from n ≡ right_at second 0 n
  unfolding right_at
  right_agree n within =
      let here : from + 0 ≡ from = omega arith in
      let start : 0 + n ≡ n = omega arith in
      let counts : digits_at first from n ≡ digits_at second 0 n = rw here at (digits_agree 0 n (omega arith)) in
      rw (counts, start, same n within)

  pub line_agree : (n : ℕ) → digits_of n < limit → leb (length first) from ≡ leb (length second) 0 → line_at first from n ≡ line_at second 0 n
  unfolding line_at
  line_agree n within ends =
      let start : 0 + byte_digits * n ≡ byte_digits * n = omega arith in
      rw (ends, right_agree (digits_of n) within, start, sum_agree n (omega arith), hex_agree (byte_digits * n) byte_digits (omega arith))

  pub numbers_agree : (offset : ℕ) (widths : List ℕ) → offset + byte_digits * bytes_of widths ≤ limit
      → numbers_read first from offset widths ≡ numbers_read second 0 offset widths
  numbers_agree offset [] within = refl
  numbers_agree offset (width ∷ widths) within =
      let start : 0 + offset ≡ offset = omega arith in
      rw (start, hex_agree offset (byte_digits * width) (omega arith), numbers_agree (offset + byte_digits * width) widths (omega arith))

  pub marked_agree : 1 < limit → list_marked first from ≡ list_marked second 0
  unfolding list_marked
  marked_agree within =
      let here : from + 0 ≡ from = omega arith in
      let start : 0 + 1 ≡ 1 = omega arith in
      rw (← (rw here at (same 0 (omega arith))), same 1 within, start)

  count_agree : digits_of (mark_bytes + list_limit) < limit → list_count first from ≡ list_count second 0
  unfolding list_count
  count_agree within =
      let here : from + 0 ≡ from = omega arith in
      rw (rw here at (digits_agree 0 (digits_of (mark_bytes + list_limit)) (omega arith)))

  pub list_agree : digits_of (mark_bytes + list_limit) < limit → leb (length first) from ≡ leb (length second) 0 → list_at first from ≡ list_at second 0
  unfolding list_at
  list_agree within ends =
      let n : ℕ = list_count second 0 in
      rw (ends, marked_agree (omega arith), count_agree within, line_agree (mark_bytes + n) (omega (arith, count_most second 0)) ends)

  pub rows_agree : digits_of (mark_bytes + list_limit) < limit → rows_at first from (list_count first from) ≡ rows_at second 0 (list_count second 0)
  rows_agree within =
      let n : ℕ = list_count second 0 in
      rw (count_agree within) (numbers_agree byte_digits (replicate n 1) (omega (arith, count_most second 0, bytes_of_ones n)))

-- What is read of a line: the end, its numbers, or a refusal.
reply_by : (P : LineReply → Type 0) (line : Found) (given : List ℕ) → P at_end → P (good_line given) → ((fault : Refused) → P (bad_line fault))
    → P (line_reply line given)
reply_by P None given ends good bad = ends
reply_by P (Some (Ok tt)) given ends good bad = good
reply_by P (Some (Err r)) given ends good bad = bad (refused r)

pub said_by : (P : LineReply → Type 0) (widths line : List ℕ) → P at_end → P (good_line (numbers_read line 0 0 widths)) → ((fault : Refused) → P (bad_line fault))
    → P (read_line widths line 0).said
said_by P widths line = reply_by P (line_at line 0 (bytes_of widths)) (numbers_read line 0 0 widths)

pub rule_by : (P : LineReply → Type 0) (line : List ℕ) → P at_end → P (good_line (numbers_read line 0 0 rule_widths)) → ((fault : Refused) → P (bad_line fault))
    → P (read_rule line 0).said
rule_by P line ends good bad =
    by_test (list_marked line 0) (λ is. rw is (bad (refused BadLine))) (λ other. rw other (said_by P rule_widths line ends good bad))

-- A line as far as it is held reads as the line.
module _ (limit : ℕ) (line : List ℕ) where
  same_held : (i : ℕ) → i < limit → byte_at (take limit line) (0 + i) ≡ byte_at line i
  same_held i below = let start : 0 + i ≡ i = omega arith in rw start (get_or-take limit line i 0 below)

  ends_held : 0 < limit → leb (length (take limit line)) 0 ≡ leb (length line) 0
  ends_held = ends limit line
    where
      ends : (limit : ℕ) (line : List ℕ) → 0 < limit → leb (length (take limit line)) 0 ≡ leb (length line) 0
      ends zero line some = absurd (omega arith)
      ends (suc limit) [] some = refl
      ends (suc limit) (byte ∷ bytes) some =
          lt-leb (suc (length (take limit bytes))) 0 (omega arith) ∙ sym (lt-leb (suc (length bytes)) 0 (omega arith))

  pub marked-held : 1 < limit → list_marked (take limit line) 0 ≡ list_marked line 0
  marked-held = marked_agree (take limit line) line 0 limit same_held

pub said-held : (widths : List ℕ) (limit : ℕ) (line : List ℕ) → digits_of (bytes_of widths) < limit
    → (read_line widths (take limit line) 0).said ≡ (read_line widths line 0).said
said-held widths limit line within =
    rw (
      line_agree (take limit line) line 0 limit (same_held limit line) (bytes_of widths) within (ends_held limit line (omega arith)),
      numbers_agree (take limit line) line 0 limit (same_held limit line) 0 widths (omega arith),
    )

pub rule-held : (limit : ℕ) (line : List ℕ) → digits_of (bytes_of rule_widths) < limit → (read_rule (take limit line) 0).said ≡ (read_rule line 0).said
rule-held limit line within =
    by_test (list_marked line 0)
    (λ is. rw (marked-held limit line (omega arith), is))
    (λ other. rw (marked-held limit line (omega arith), other) (said-held rule_widths limit line within))

pub list_held : (limit : ℕ) (line : List ℕ) → digits_of (mark_bytes + list_limit) < limit → (read_list (take limit line) 0).said ≡ (read_list line 0).said
list_held limit line within =
    rw (
      list_agree (take limit line) line 0 limit (same_held limit line) within (ends_held limit line (omega arith)),
      rows_agree (take limit line) line 0 limit (same_held limit line) within,
    )

-- What is not as required is a bad line.
line_bad : (text : List ℕ) (place n : ℕ) → place < length text → (right_at text place (digits_of n) ≡ digits_of n + 1 → ⊥)
    → line_at text place n ≡ Some (Err BadLine)
unfolding line_at
line_bad text place n within wrong = rw (lt-leb _ _ within, ne_eqb _ _ wrong)

said_bad : (widths text : List ℕ) (place : ℕ) → place < length text
    → (right_at text place (digits_of (bytes_of widths)) ≡ digits_of (bytes_of widths) + 1 → ⊥)
    → (read_line widths text place).said ≡ bad_line (refused BadLine)
said_bad widths text place within wrong = rw (line_bad text place (bytes_of widths) within wrong)

-- A line without a line feed is a bad line.
module _ (line : List ℕ) (some : 0 < length line) (free : (i : ℕ) → byte_at line i ≡ line_feed → ⊥) where
  line_cut : (n : ℕ) → line_at line 0 n ≡ Some (Err BadLine)
  unfolding right_at
  line_cut n =
      let last : eqb (byte_at line (0 + digits_of n)) line_feed ≡ false = ne_eqb _ _ (free (0 + digits_of n)) in
      let most : digits_at line 0 (digits_of n) ≤ digits_of n = digits_at-most line 0 (digits_of n) in
      line_bad line 0 n some
      (rw last (rw (and_false (eqb (digits_at line 0 (digits_of n)) (digits_of n))) (λ is. omega arith)))

  pub rule_cut : (read_rule line 0).said ≡ bad_line (refused BadLine)
  rule_cut = by_test (list_marked line 0) (λ is. rw is) (λ other. rw (other, line_cut (bytes_of rule_widths)))

  pub list_cut : (read_list line 0).said ≡ bad_line (refused BadLine)
  unfolding list_at
  list_cut =
      rw (lt-leb (length line) 0 some, line_cut (mark_bytes + list_count line 0))
      (by_test (list_marked line 0 && leb 1 (list_count line 0)) (λ is. rw is) (λ not. rw not))

pub said_cut : (widths line : List ℕ) → 0 < length line → ((i : ℕ) → byte_at line i ≡ line_feed → ⊥)
    → (read_line widths line 0).said ≡ bad_line (refused BadLine)
said_cut widths line some free = rw (line_cut line some free (bytes_of widths))

-- The first line of a text has a byte at least where the text has one.
pub past-some : (bytes : List ℕ) → 0 < length bytes → 0 < past_first bytes
unfolding past_first
past-some [] some = absurd (omega arith)
past-some (byte ∷ bytes) some =
    by_test (eqb byte line_feed) (λ ends. rw ends (omega arith)) (λ other. rw other (omega arith))

-- A line read at its place in a text reads as the line alone.
module _ (widths text : List ℕ) (place : ℕ) (within : place < length text) where
  abbrev rest : List ℕ
  rest = drop place text

  abbrev size : ℕ
  size = past_first rest

  abbrev alone : List ℕ
  alone = take size rest

  abbrev n : ℕ
  n = digits_of (bytes_of widths)

  alone-size : length alone ≡ size
  alone-size = length-take-le size rest (past-most rest)

  some : 0 < size
  some = past-some rest (rw length-drop (omega arith))

  same : (i : ℕ) → i < size → byte_at text (place + i) ≡ byte_at alone i
  same i below = sym (get_or-take size rest i 0 below ∙ get_or-drop place text i 0)

  long : n < size → (read_line widths text place).said ≡ (read_line widths alone 0).said
  long below =
      let bytes : 0 < length alone = rw alone-size some in
      let ends : leb (length text) place ≡ leb (length alone) 0 = lt-leb _ _ within ∙ sym (lt-leb _ _ bytes) in
      rw (line_agree text alone place size same (bytes_of widths) below ends, numbers_agree text alone place size same 0 widths (omega arith))

  short : size ≤ n → (read_line widths text place).said ≡ (read_line widths alone 0).said
  unfolding past_line_feed
  short few =
      let first : length alone ≡ size = alone-size in
      let part : past_first (drop 0 alone) ≤ length (drop 0 alone) = past-most (drop 0 alone) in
      let whole : length (drop 0 alone) ≡ length alone - 0 = length-drop 0 alone in
      said_bad widths text place within
      (λ right. let past : place + size ≡ place + (n + 1) = past-right text place n right in omega arith)
      ∙ sym (said_bad widths alone 0 (rw alone-size some)
      (λ right. let past : 0 + past_first (drop 0 alone) ≡ 0 + (n + 1) = past-right alone 0 n right in omega arith))

  pub said-alone : (read_line widths text place).said ≡ (read_line widths alone 0).said
  said-alone = by_test (ltb n size) (λ below. long (ltb-true _ _ below)) (λ not. short (ltb-false _ _ not))
