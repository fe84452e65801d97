-- The check of a rule table (document 01, "Refusal numbers", 1 to 3).
use Rattle.std.specs.Prelude.{Bool, cond, ◌&&◌, ◌||◌, List, ◌≡◌, ℕ, zero, suc, ◌/◌, ◌%◌, eqb, leb, length, Result, Ok, Err}
use Rattle.std.proofs.Math.Option.{Option, none, some}
use Rattle.meaning.specs.Interval.{no_end_number}
use Rattle.kinds.specs.Kinds.{Kind, known, kind_at, fits}
use Rattle.rules.specs.Limits.{row_numbers, row_limit, longest}
use Rattle.rules.specs.Rows.{rows_of, numbers_at}
use Rattle.rules.specs.Stretches.{need_of}
use Rattle.refusals.specs.Refusals.{Refused, refused, ◌or_else◌}
use Rattle.rules.specs.declared.numbers.Numbers.{Numbers}
use Rattle.rules.specs.declared.table.Passed.{Passed}
use Rattle.refusals.specs.declared.refusal.Refusal.{Refusal}
use Rattle.refusals.specs.declared.refusal.Refusal.TheVariants.{Length, Row, Limits}

-- 1: "table length not a multiple of 5, or rows not 1 to" the limit.
unfoldable pub length_passes : ℕ → Bool
length_passes numbers = eqb (numbers % row_numbers) 0 && leb 1 (numbers / row_numbers) && leb (numbers / row_numbers) row_limit

-- 2: "row: kind over 6, x or y not lower, bit over 31, unused not 0"; kind over 8 by document 02, E1, bit over 30 by E2.
abbrev pub numbers_fit : ℕ → Kind → Numbers → Bool
numbers_fit r k row = fits r k.x row.x && fits r k.y row.y && fits r k.a row.a && fits r k.b row.b

unfoldable pub row_passes : ℕ → Numbers → Bool
row_passes r row = known row.kind && numbers_fit r (kind_at row.kind) row

-- 3: "row passes 2, but a or b outside the range above": "a is 0 to 86,400,000; b is a to 86,400,000, or 4,294,967,295 for 'no end'".
-- Where a and b are unused they are 0 and in range.
unfoldable pub limits_pass : ℕ → ℕ → Bool
limits_pass a b = leb a longest && (eqb b no_end_number || (leb a b && leb b longest))

unfoldable pub fault_of : ℕ → Numbers → Option Refused
fault_of r row =
    cond (row_passes r row)
    (cond (limits_pass row.a row.b) none (some (refused (Limits r))))
    (some (refused (Row r)))

-- "Among rows the first bad row decides and nothing after it is looked at."
unfoldable pub first_fault : List ℕ → ℕ → Option Refused
first_fault table zero = none
first_fault table (suc r) = first_fault table r or_else fault_of r (numbers_at table r)

-- "The table check gives the row count and need", or a refusal with the paper's number and values.
pub data CheckReply : Type 0 where
  passed : (rows need : ℕ) → CheckReply
  refused_by : Refused → CheckReply

abbrev pub check_reply_by : Option Refused → (rows need : ℕ) → CheckReply
check_reply_by none rows need = passed rows need
check_reply_by (some fault) rows need = refused_by fault

unfoldable pub check_of : List ℕ → CheckReply
check_of table =
    cond (length_passes (length table))
    (check_reply_by (first_fault table (rows_of table)) (rows_of table) (need_of table))
    (refused_by (refused Length))

-- What an answer of the check says.
abbrev pub check_reply : Result Passed Refusal → CheckReply
check_reply (Ok counted) = passed counted.rows counted.need
check_reply (Err refusal) = refused_by (refused refusal)

-- An answer of the check that is right for a table: it says what the check of the table gives.
abbrev pub Checks : List ℕ → Result Passed Refusal → Type 0
Checks table answer = check_reply answer ≡ check_of table
