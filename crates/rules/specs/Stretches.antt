-- The stretches of a table's rows in the store (document 01, "Spans, store and record").
use Rattle.std.specs.Prelude.{List, ℕ, zero, suc, ◌+◌, ◌*◌}
use Rattle.meaning.specs.Interval.{end_of}
use Rattle.meaning.specs.Figure.{figure}
use Rattle.spans.specs.Layout.{span_words}
use Rattle.kinds.specs.Kinds.{Rule, plain, stretch}
use Rattle.rules.specs.Rows.{rows_of, numbers_at, rule_of}
use Rattle.rules.specs.declared.numbers.Numbers.{Numbers}

-- "each span it may need": the figure, over the row's limits; none where it owns no stretch.
abbrev pub spans_said : Rule → Numbers → ℕ
spans_said (plain says) row = 0
spans_said (stretch columns) row = figure row.a (end_of row.b)

abbrev pub spans_of : Numbers → ℕ
spans_of row = spans_said (rule_of row) row

-- "two words (first, last) for each span".
abbrev pub width : Numbers → ℕ
width row = span_words * spans_of row

-- "In row order, each since row owns its own stretch": the first at word 0, each where the former ends.
unfoldable pub offset : List ℕ → ℕ → ℕ
offset table zero = 0
offset table (suc row) = offset table row + width (numbers_at table row)

-- "The sum over since rows, in words, is the need": where the last stretch ends.
abbrev pub need_of : List ℕ → ℕ
need_of table = offset table (rows_of table)
