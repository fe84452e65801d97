-- The rows of a table (document 01, "The rule table"): "A lent row of 32-bit numbers, five per row: kind, x, y, a, b."
use Rattle.std.specs.Prelude.{Bool, true, false, List, ℕ, ◌+◌, ◌*◌, ◌/◌, length, get_or}
use Rattle.kinds.specs.Kinds.{Rule, kind_at}
use Rattle.kinds.specs.declared.stretch.Keep.{Keep}
use Rattle.kinds.specs.declared.stretch.Keep.TheVariants.{Unasked, WhileX, WhileY}
use Rattle.kinds.specs.declared.stretch.Feed.{Feed}
use Rattle.kinds.specs.declared.stretch.Feed.TheVariants.{FromX, FromY}
use Rattle.kinds.specs.declared.stretch.Stretch.{Stretch}
use Rattle.rules.specs.Limits.{row_numbers}
use Rattle.rules.specs.declared.numbers.Numbers.{Numbers}
use Rattle.times.specs.declared.interval.Interval.{Interval}

abbrev pub rows_of : List ℕ → ℕ
rows_of table = length table / row_numbers

-- The number at a field of a row; 0 past the table's end.
abbrev pub field_at : List ℕ → ℕ → ℕ → ℕ
field_at table row field = get_or table (row * row_numbers + field) 0

unfoldable pub numbers_at : List ℕ → ℕ → Numbers
numbers_at table row =
    record {
      kind = field_at table row 0;
      x = field_at table row 1;
      y = field_at table row 2;
      a = field_at table row 3;
      b = field_at table row 4;
    }

-- Its limits, a to b.
abbrev pub limits_of : Numbers → Interval
limits_of row = record { a = row.a; b = row.b }

-- What a row says, decoded once.
abbrev pub rule_of : Numbers → Rule
rule_of row = (kind_at row.kind).rule

-- The columns of a stretch, over whatever the rows have, formulas or truths: what keeps its spans, what feeds them, and what the row itself is.
abbrev pub kept_by : {A : Type 0} → A → (ℕ → A) → Numbers → Keep → A
kept_by unasked of row Unasked = unasked
kept_by unasked of row WhileX = of row.x
kept_by unasked of row WhileY = of row.y

abbrev pub feeder : Feed → Numbers → ℕ
feeder FromX row = row.x
feeder FromY row = row.y

-- As it is, or its opposite.
abbrev pub taken : {A : Type 0} → (A → A) → Bool → A → A
taken opposite true value = value
taken opposite false value = opposite value

abbrev pub fed_by : {A : Type 0} → (A → A) → (ℕ → A) → Numbers → Stretch → A
fed_by opposite of row columns = taken opposite columns.when (of (feeder columns.feed row))
