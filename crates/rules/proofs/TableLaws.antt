-- Laws of the table check: what each test decides, the first fault, and where the check stands after some rows.
use mathlib.Core.Bool.{true, false}
use mathlib.Core.List.{List}
use mathlib.Core.Logic.{⊎_elim}
use mathlib.Core.Option.{Option, none, some}
use mathlib.Core.Path.{◌≡◌, refl}
use Prim.Native.Nat.{ℕ, zero, suc, ◌+◌, ◌/◌, ◌%◌, ◌≤◌, ◌<◌}
use native.Mathlib.Nat.{eq-or-lt_of_le, le_of_suc-le-suc}
use native.Mathlib.Numerals.{add-one}
use native.Mathlib.Omega.{arith}
use lib.ListN.{length}
use Rattle.meaning.proofs.Tells.{Tells, tells_leb, tells_eqb, tells_and, tells_same}
use Rattle.rules.specs.Limits.{row_numbers, row_limit}
use Rattle.rules.specs.Rows.{rows_of, numbers_at}
use Rattle.rules.specs.Stretches.{width, offset}
use Rattle.refusals.specs.Refusals.{Refused, refused, ◌or_else◌}
use Rattle.rules.specs.Table.{length_passes, row_passes, limits_pass, fault_of, first_fault, passed, refused_by, check_of}
use Rattle.rules.specs.declared.numbers.Numbers.{Numbers}
use Rattle.refusals.specs.declared.refusal.Refusal.TheVariants.{Length, Row, Limits}

-- The fault of a row, by the two tests.
pub fault_row : (r : ℕ) (row : Numbers) → row_passes r row ≡ false → fault_of r row ≡ some (refused (Row r))
unfolding fault_of
fault_row r row h = rw h

pub fault_limits : (r : ℕ) (row : Numbers) → row_passes r row ≡ true → limits_pass row.a row.b ≡ false → fault_of r row ≡ some (refused (Limits r))
unfolding fault_of
fault_limits r row h l = rw (h, l)

pub fault_none : (r : ℕ) (row : Numbers) → row_passes r row ≡ true → limits_pass row.a row.b ≡ true → fault_of r row ≡ none
unfolding fault_of
fault_none r row h l = rw (h, l)

-- Where neither of two refuses.
pub or_none : (first next : Option Refused) → (first or_else next) ≡ none → (first ≡ none) × (next ≡ none)
or_none none next h = (refl, h)
or_none (some fault) next h = cc

-- A fault that was found is the first fault of every longer part of the table.
first-kept : (table : List ℕ) (r n : ℕ) (fault : Refused) → first_fault table r ≡ some fault → r ≤ n → first_fault table n ≡ some fault
unfolding first_fault
first-kept table r zero fault h within = let e : r ≡ 0 = omega arith in rw e at h
first-kept table r (suc n) fault h within =
    ⊎_elim
    (λ e. rw e at h)
    (λ lower. rw (first-kept table r n fault h (le_of_suc-le-suc lower)))
    (eq-or-lt_of_le within)

-- A fault after rows without one is the first.
pub first-at : (table : List ℕ) (r : ℕ) (fault : Option Refused) → first_fault table r ≡ none → fault_of r (numbers_at table r) ≡ fault
    → first_fault table (suc r) ≡ fault
unfolding first_fault
first-at table r fault h e = rw (h, e)

-- 1: "table length not a multiple of 5, or rows not 1 to" the limit, where it passes.
pub record WholeRows (numbers : ℕ) : Type 0 where
  pub no_rest : numbers % row_numbers ≡ 0
  pub some-row : 1 ≤ numbers / row_numbers
  pub few-rows : numbers / row_numbers ≤ row_limit

pub whole_rows_told : (numbers : ℕ) → Tells (length_passes numbers) (WholeRows numbers)
unfolding length_passes
whole_rows_told numbers =
    tells_same
    (λ h. record { no_rest = h.0.0; some-row = h.0.1; few-rows = h.1 })
    (λ rows. ((rows.no_rest, rows.some-row), rows.few-rows))
    (tells_and (tells_and (tells_eqb (numbers % row_numbers) 0) (tells_leb 1 (numbers / row_numbers))) (tells_leb (numbers / row_numbers) row_limit))

-- Where the table check stands after some rows: all of them pass, and this much is needed for them.
pub record SoFar (table : List ℕ) (need row : ℕ) : Type 0 where
  pub size : length_passes (length table) ≡ true
  pub whole : WholeRows (length table)
  pub within : row ≤ rows_of table
  pub needed : need ≡ offset table row
  pub good : first_fault table row ≡ none

module _ (table : List ℕ) (need r : ℕ) (before : SoFar table need r) where
  -- The next row is bad: its fault is the answer.
  pub refused-at : (fault : Refused) → r < rows_of table → fault_of r (numbers_at table r) ≡ some fault → refused_by fault ≡ check_of table
  unfolding check_of
  refused-at fault more h =
      rw (
        before.size,
        first-kept table (suc r) (rows_of table) fault (first-at table r (some fault) before.good h) more,
      )

  -- There is no next row: the table passes.
  pub passed-at : rows_of table ≤ r → passed (rows_of table) need ≡ check_of table
  unfolding check_of
  passed-at done =
      let all : r ≡ rows_of table = omega (arith, before.within) in
      rw (before.size, ← all, before.good, before.needed)

  -- The next row passes.
  pub next-passes :
      (words : ℕ)
      → r < rows_of table
      → fault_of r (numbers_at table r) ≡ none
      → words ≡ width (numbers_at table r)
      → SoFar table (need + words) (r + 1)
  unfolding offset
  next-passes words more h e =
      record {
        size = before.size;
        whole = before.whole;
        within = omega arith;
        needed = rw (add-one, before.needed, e);
        good = rw (add-one, first-at table r none before.good h);
      }

-- 1: the length is wrong.
pub refused_length : (table : List ℕ) → length_passes (length table) ≡ false → refused_by (refused Length) ≡ check_of table
unfolding check_of
refused_length table h = rw h
