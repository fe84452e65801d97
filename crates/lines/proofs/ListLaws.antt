-- Row numbers on a line: how many there can be, one turn of reading them, and the place past a list line or a rule line.
use mathlib.Core.Bool.{true, false, ◌&&◌}
use mathlib.Core.List.{List, [], ◌∷◌, ◌++◌}
use mathlib.Core.Path.{◌≡◌, refl, sym, ap, ◌∙◌}
use Prim.Native.Nat.{ℕ, zero, suc, ◌+◌, ◌-◌, ◌*◌, ◌≤◌, ◌<◌}
use native.Mathlib.Omega.{arith}
use borrow.Author.Tests.{lt-leb, le-leb}
use lib.Dec.{leb}
use lib.ListN.{length, get_or, set, replicate, length-replicate}
use lib.Seq.{set_at, take_at, append_snoc}
use Rattle.std.specs.Prelude.{Some, Err}
use Rattle.refusals.specs.declared.refusal.Refusal.TheVariants.{BadLine}
use Rattle.meaning.proofs.Truths.{by_test}
use Rattle.row_list.specs.RowList.{list_limit, numbers_of}
use Rattle.lines.specs.Digits.{byte_digits, digits_at, hex_at}
use Rattle.lines.specs.Line.{past_line_feed, digits_of, line_at}
use Rattle.lines.specs.Read.{bytes_of, numbers_read}
use Rattle.lines.specs.ListLine.{list_marked, mark_bytes, list_count, list_at, rows_at, read_list, list_of}
use Rattle.lines.specs.Rule.{rule_widths, read_rule}
use Rattle.lines.proofs.DigitLaws.{digits_at-most}
use Rattle.lines.proofs.LineLaws.{next_past}

pub numbers_of_list : (given : List ℕ) → numbers_of (list_of given) ≡ given
numbers_of_list given = take_at given (replicate (list_limit - length given) 0) (length given) refl

module _ (text : List ℕ) (place : ℕ) where
  pub count_most : list_count text place ≤ list_limit
  unfolding list_count
  count_most =
      let most : digits_at text place (digits_of (mark_bytes + list_limit)) ≤ digits_of (mark_bytes + list_limit) =
      digits_at-most text place (digits_of (mark_bytes + list_limit)) in
      omega arith

  numbers_length : (offset : ℕ) (widths : List ℕ) → length (numbers_read text place offset widths) ≡ length widths
  numbers_length offset [] = refl
  numbers_length offset (width ∷ widths) = ap suc (numbers_length (offset + byte_digits * width) widths)

  pub rows_length : (count : ℕ) → length (rows_at text place count) ≡ count
  rows_length count = numbers_length byte_digits (replicate count 1) ∙ length-replicate count 1

  one_more : (offset n : ℕ)
      → numbers_read text place offset (replicate (suc n) 1)
      ≡ numbers_read text place offset (replicate n 1) ++ (hex_at text (place + (offset + byte_digits * n)) byte_digits ∷ [])
  one_more offset zero =
      let same : offset + byte_digits * 0 ≡ offset = omega arith in
      rw same
  one_more offset (suc n) =
      let on : offset + byte_digits * 1 + byte_digits * n ≡ offset + byte_digits * suc n = omega arith in
      rw (one_more (offset + byte_digits * 1) n, on)

  number_at : (offset n k : ℕ) → k < n
      → get_or (numbers_read text place offset (replicate n 1)) k 0 ≡ hex_at text (place + (offset + byte_digits * k)) byte_digits
  number_at offset zero k below = absurd (omega arith)
  number_at offset (suc n) zero below =
      let same : offset + byte_digits * 0 ≡ offset = omega arith in
      rw same
  number_at offset (suc n) (suc k) below =
      let on : offset + byte_digits * 1 + byte_digits * k ≡ offset + byte_digits * suc k = omega arith in
      number_at (offset + byte_digits * 1) n k (omega arith) ∙ rw on

  pub row_at : (count k : ℕ) → k < count → get_or (rows_at text place count) k 0 ≡ hex_at text (place + (byte_digits + byte_digits * k)) byte_digits
  row_at count k below = number_at byte_digits count k below

  -- The first numbers from an offset on as they are stored, 0 past them.
  module _ (offset : ℕ) where
    abbrev pub rows_done : ℕ → List ℕ
    rows_done done = numbers_read text place offset (replicate done 1) ++ replicate (list_limit - done) 0

    pub store-row : (done value : ℕ) → done < list_limit → value ≡ hex_at text (place + (offset + byte_digits * done)) byte_digits
        → set (rows_done done) done value ≡ rows_done (done + 1)
    store-row done value room is =
        let left : list_limit - done ≡ suc (list_limit - suc done) = omega arith in
        let on : done + 1 ≡ suc done = omega arith in
        let given : List ℕ = numbers_read text place offset (replicate done 1) in
        let zeros : List ℕ = replicate (list_limit - suc done) 0 in
        let size : length given ≡ done = numbers_length offset (replicate done 1) ∙ length-replicate done 1 in
        let stored : set (given ++ (0 ∷ zeros)) done value ≡ given ++ (value ∷ zeros) = set_at given 0 zeros value done size in
        let more : numbers_read text place offset (replicate (suc done) 1) ≡ given ++ (value ∷ []) = one_more offset done ∙ rw (← is) in
        rw (left, on) (stored ∙ sym (append_snoc given value zeros) ∙ ap (λ (l : List ℕ). l ++ zeros) (sym more))

    pub rows-done : (count : ℕ) → record { rows = rows_done count; count = count } ≡ list_of (numbers_read text place offset (replicate count 1))
    rows-done count =
        let size : length (replicate {A = ℕ} count 1) ≡ count = length-replicate count 1 in
        rw (numbers_length offset (replicate count 1), size)

-- What list a text begins with: none where it has no mark or no row number, else that of a line of so many bytes.
module _ (text : List ℕ) (some : 0 < length text) where
  pub list_none : (list_marked text 0 && leb 1 (list_count text 0)) ≡ false → list_at text 0 ≡ Some (Err BadLine)
  unfolding list_at
  list_none not = rw (lt-leb (length text) 0 some, not)

  pub list_line : list_marked text 0 ≡ true → 1 ≤ list_count text 0 → list_at text 0 ≡ line_at text 0 (mark_bytes + list_count text 0)
  unfolding list_at
  list_line marked counted = rw (lt-leb (length text) 0 some, marked, le-leb 1 (list_count text 0) counted)

-- After any list line, and any line read for a rule, the next place is past its first line feed.
module _ (text : List ℕ) (place : ℕ) (within : place < length text) where
  pub list-past : (read_list text place).next ≡ past_line_feed text place
  unfolding list_at
  list-past =
      rw (lt-leb (length text) place within)
      (by_test (list_marked text place && leb 1 (list_count text place))
      (λ is. rw is (next_past text place (mark_bytes + list_count text place) within))
      (λ not. rw not))

  pub rule-past : (read_rule text place).next ≡ past_line_feed text place
  rule-past = by_test (list_marked text place) (λ is. rw is) (λ other. rw other (next_past text place (bytes_of rule_widths) within))
