-- What a table that passes gives: its length, each row's numbers, what limits in range are, and how much its rows can need at most.
use mathlib.Core.Bool.{Bool, true, false, cond}
use mathlib.Core.List.{List}
use mathlib.Core.Logic.{◌⊎◌, ⊎_elim}
use mathlib.Core.Option.{Option, none, some}
use mathlib.Core.Path.{◌≡◌, refl}
use Prim.Native.Nat.{ℕ, zero, suc, ◌+◌, ◌*◌, ◌/◌, ◌^◌, ◌≤◌, ◌<◌}
use native.Mathlib.Nat.{eq-or-lt_of_le, le_of_suc-le-suc}
use native.Mathlib.Omega.{arith}
use lib.ListN.{length}
use borrow.Author.Tests.{eq-eqb, ne_eqb}
use Rattle.meaning.specs.Interval.{End, up_to, no_end, end_of, no_end_number, ◌≤End◌}
use Rattle.meaning.specs.Figure.{figure}
use Rattle.meaning.proofs.Tells.{Tells, tells_leb, tells_eqb, tells_and, tells_or, tells_same, tells_passed}
use Rattle.spans.specs.Layout.{span_words}
use Rattle.rules.specs.Limits.{row_numbers, row_limit, longest}
use Rattle.rules.specs.Rows.{rows_of, numbers_at, rule_of}
use Rattle.rules.specs.Stretches.{width, offset, need_of}
use Rattle.refusals.specs.Refusals.{Refused, refused}
use Rattle.rules.specs.Table.{length_passes, row_passes, limits_pass, fault_of, first_fault, passed, refused_by, check_reply_by, check_of}
use Rattle.rules.specs.RowFormula.{made_of, formula_of}
use Rattle.rules.specs.declared.numbers.Numbers.{Numbers}
use Rattle.refusals.specs.declared.refusal.Refusal.TheVariants.{Length, Row, Limits}
use Rattle.rules.proofs.RowFitsLaws.{RowFits, row_fits_told, Names, names_lower}
use Rattle.rules.proofs.TableLaws.{or_none, whole_rows_told}
use Rattle.rules.proofs.RowFormulaLaws.{formula-made}
use Rattle.rules.proofs.FigureLaws.{figure-most}
use Rattle.rules.proofs.StretchesLaws.{spans-most}

-- "a is 0 to 86,400,000; b is a to 86,400,000, or 4,294,967,295 for 'no end'".
pub record InRange (a b : ℕ) : Type 0 where
  pub least : a ≤ longest
  pub most : (b ≡ no_end_number) ⊎ ((a ≤ b) × (b ≤ longest))

-- What a row that passes is.
pub record Good (r : ℕ) (row : Numbers) : Type 0 where
  pub fits : RowFits r row
  pub names : Names r row (rule_of row)
  pub limits : InRange row.a row.b

-- What a table that passes is, with its row count and need.
pub record Passed (table : List ℕ) (rows need : ℕ) : Type 0 where
  pub whole : length table ≡ row_numbers * rows
  pub some-row : 1 ≤ rows
  pub few-rows : rows ≤ row_limit
  pub counted : rows ≡ rows_of table
  pub needed : need ≡ need_of table
  pub good : (r : ℕ) → r < rows → Good r (numbers_at table r)

pub range_told : (a b : ℕ) → Tells (limits_pass a b) (InRange a b)
unfolding limits_pass
range_told a b =
    tells_same
    (λ h. record { least = h.0; most = h.1 })
    (λ range. (range.least, range.most))
    (tells_and (tells_leb a longest) (tells_or (tells_eqb b no_end_number) (tells_and (tells_leb a b) (tells_leb b longest))))

-- The end of limits in range: none, or the number b itself.
pub range_cases : (P : End → Type 0) (a b : ℕ) → InRange a b → P no_end → (a ≤ b → b ≤ longest → P (up_to b)) → P (end_of b)
unfolding end_of
range_cases P a b range endless ending =
    ⊎_elim
    (λ e. rw (eq-eqb b no_end_number e) endless)
    (λ both. rw (ne_eqb b no_end_number (λ e. omega arith)) (ending both.0 both.1))
    range.most

-- a is not past that end, and b fits a number of the table.
pub range_order : (a b : ℕ) → InRange a b → a ≤End end_of b
range_order a b range = range_cases (λ end. a ≤End end) a b range tt (λ order most. order)

pub limit-fits : (a b : ℕ) → InRange a b → b < 2 ^ 32
limit-fits a b range = ⊎_elim (λ e. omega arith) (λ both. omega arith) range.most

-- No fault is both tests passed.
no_fault : (p q : Bool) (f g : Refused) → cond p (cond q none (some f)) (some g) ≡ none → (p ≡ true) × (q ≡ true)
no_fault true true f g h = (refl, refl)
no_fault true false f g h = cc
no_fault false q f g h = cc

row_tests : (r : ℕ) (row : Numbers) → fault_of r row ≡ none → (row_passes r row ≡ true) × (limits_pass row.a row.b ≡ true)
unfolding fault_of
row_tests r row h = no_fault (row_passes r row) (limits_pass row.a row.b) (refused (Limits r)) (refused (Row r)) h

pub good-row : (r : ℕ) (row : Numbers) → fault_of r row ≡ none → Good r row
good-row r row h =
    let tests = row_tests r row h in
    let fits : RowFits r row = tells_passed (row_fits_told r row) tests.0 in
    record { fits = fits; names = names_lower r row fits; limits = tells_passed (range_told row.a row.b) tests.1 }

-- No fault among some rows is none before the last of them, and none at it.
fault_parts : (table : List ℕ) (n : ℕ) → first_fault table (suc n) ≡ none → (first_fault table n ≡ none) × (fault_of n (numbers_at table n) ≡ none)
unfolding first_fault
fault_parts table n h = or_none (first_fault table n) (fault_of n (numbers_at table n)) h

-- Every row below n is good where there is no fault among them.
pub rows-good : (table : List ℕ) (n : ℕ) → first_fault table n ≡ none → (r : ℕ) → r < n → Good r (numbers_at table r)
rows-good table zero h r lower = absurd (omega arith)
rows-good table (suc n) h r lower =
    ⊎_elim
    (λ e. rw e (good-row n (numbers_at table n) (fault_parts table n h).1))
    (λ further. rows-good table n (fault_parts table n h).0 r further)
    (eq-or-lt_of_le (le_of_suc-le-suc lower))

-- The most words that a row in range can need, and that so many rows can.
abbrev pub widest : ℕ
widest = span_words * (longest / 2 + 1)

figure_in_range : (a b : ℕ) → InRange a b → figure a (end_of b) ≤ longest / 2 + 1
unfolding end_of figure
figure_in_range a b range =
    ⊎_elim
    (λ e. rw (eq-eqb b no_end_number e) (omega arith))
    (λ both. omega (arith, figure-most a b))
    range.most

pub width-most : (row : Numbers) → InRange row.a row.b → width row ≤ widest
width-most row range = omega (arith, spans-most row, figure_in_range row.a row.b range)

pub offset-most : (table : List ℕ) (n : ℕ) → ((r : ℕ) → r < n → Good r (numbers_at table r)) → offset table n ≤ n * widest
unfolding offset
offset-most table zero good = omega arith
offset-most table (suc n) good =
    let here : width (numbers_at table n) ≤ widest = width-most (numbers_at table n) (good n (omega arith)).limits in
    let before : offset table n ≤ n * widest = offset-most table n (λ r lower. good r (omega arith)) in
    omega arith

-- A table that passes, by the answer of its check.
answer_parts :
    (p : Bool) (o : Option Refused) (refusal : Refused) (n m rows need : ℕ)
    → cond p (check_reply_by o n m) (refused_by refusal) ≡ passed rows need
    → (p ≡ true) × (o ≡ none) × (rows ≡ n) × (need ≡ m)
answer_parts true none refusal n m rows need h = (refl, refl, (cc), (cc))
answer_parts true (some fault) refusal n m rows need h = cc
answer_parts false o refusal n m rows need h = cc

pub passed_gives : (table : List ℕ) (rows need : ℕ) → check_of table ≡ passed rows need → Passed table rows need
unfolding check_of
passed_gives table rows need h =
    let fault : Option Refused = first_fault table (rows_of table) in
    let parts = answer_parts (length_passes (length table)) fault (refused Length) (rows_of table) (need_of table) rows need h in
    let size = tells_passed (whole_rows_told (length table)) parts.0 in
    record {
      whole = omega (arith, parts.2);
      some-row = omega (arith, parts.2);
      few-rows = omega (arith, parts.2);
      counted = parts.2;
      needed = parts.3;
      good = rw parts.2 (rows-good table (rows_of table) parts.1);
    }

-- The formula of each row of a table that passes is made of those of the rows that it names.
pub passed-formula : (table : List ℕ) (rows need r : ℕ) → Passed table rows need → r < rows → formula_of table r ≡ made_of table r (formula_of table)
passed-formula table rows need r h lower = formula-made table r (h.good r lower).names
