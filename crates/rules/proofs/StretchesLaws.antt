-- How many spans a row can need at most, and that a stretch ends where a later one begins, or before it.
use mathlib.Core.Bool.{cond}
use mathlib.Core.List.{List}
use mathlib.Core.Logic.{⊎_elim}
use mathlib.Core.Path.{◌≡◌, refl}
use Prim.Native.Nat.{ℕ, zero, suc, ◌+◌, ◌/◌, ◌≤◌, ◌<◌}
use native.Mathlib.Nat.{eq-or-lt_of_le, le_of_suc-le-suc}
use native.Mathlib.Omega.{arith}
use Rattle.meaning.specs.Interval.{end_of}
use Rattle.meaning.specs.Figure.{figure}
use Rattle.kinds.specs.Kinds.{Rule, plain, stretch, has_stretch}
use Rattle.rules.specs.Rows.{numbers_at, rule_of}
use Rattle.rules.specs.Stretches.{spans_said, spans_of, width, offset}
use Rattle.rules.specs.declared.numbers.Numbers.{Numbers}
use Rattle.rules.proofs.FigureLaws.{figure-most}

-- The spans of a row by the column of the table that says whether it owns a stretch.
pub spans_by_column : (rule : Rule) (row : Numbers) → spans_said rule row ≡ cond (has_stretch rule) (figure row.a (end_of row.b)) 0
spans_by_column (plain says) row = refl
spans_by_column (stretch columns) row = refl

-- At most the figure, whatever the row says; so no more than half of b and one.
said-most : (rule : Rule) (row : Numbers) → spans_said rule row ≤ figure row.a (end_of row.b)
said-most (plain says) row = omega arith
said-most (stretch columns) row = omega arith

pub spans-most : (row : Numbers) → spans_of row ≤ figure row.a (end_of row.b)
spans-most row = said-most (rule_of row) row

pub spans_below : (row : Numbers) → spans_of row ≤ row.b / 2 + 1
spans_below row = omega (arith, spans-most row, figure-most row.a row.b)

-- A stretch ends where a later one begins, or before it.
pub stretch-before : (table : List ℕ) (r n : ℕ) → r < n → offset table r + width (numbers_at table r) ≤ offset table n
unfolding offset
stretch-before table r zero lower = absurd (omega arith)
stretch-before table r (suc n) lower =
    ⊎_elim
    (λ e. rw e (omega arith))
    (λ further. let before = stretch-before table r n further in omega arith)
    (eq-or-lt_of_le (le_of_suc-le-suc lower))
