-- Demand 3, its need: "The store needed follows from the table alone: for each since row with limits a to b, floor(b/(b-a+2))+1 spans, one if b has
-- no end."
use Rattle.std.specs.Prelude.{false, List, ◌≡◌, ℕ, zero, suc, ◌+◌, ◌*◌}
use Rattle.meaning.specs.Interval.{end_of}
use Rattle.meaning.specs.Figure.{figure}
use Rattle.spans.specs.Layout.{span_words}
use Rattle.kinds.specs.Kinds.{stretch, x_since_y, once_x, always_x, has_stretch}
use Rattle.rules.specs.Rows.{rows_of, numbers_at, rule_of}
use Rattle.rules.specs.Stretches.{need_of}
use Rattle.rules.specs.declared.numbers.Numbers.{Numbers}
use Rattle.soundness.specs.Setup.{Setup}
use Rattle.monitor.specs.Start.{start_of}
use Rattle.promises.specs.Conditions.{IsSince}
use Rattle.promises.specs.Stream.{Starts}

-- "x since y" has a stretch kept while x is true, fed where y is, true inside a span; "once x" one kept whatever comes, fed where x is true, true
-- inside; "always x" one kept whatever comes, fed where x is false, true outside. No other row has one.
pub record OwnsStretch (n : Numbers) : Type 0 where
  pub since : n.kind ≡ 6 → rule_of n ≡ stretch x_since_y
  pub once : n.kind ≡ 7 → rule_of n ≡ stretch once_x
  pub always : n.kind ≡ 8 → rule_of n ≡ stretch always_x
  pub other : ¬ IsSince n → has_stretch (rule_of n) ≡ false

-- What the rows below n need: "The sum over since rows, in words", two for each span.
pub data Needs (table : List ℕ) : (n words : ℕ) → Type 0 where
  none : Needs table zero 0
  since : {row words : ℕ}
      → Needs table row words
      → IsSince (numbers_at table row)
      → Needs table (suc row) (words + span_words * figure (numbers_at table row).a (end_of (numbers_at table row).b))
  other : {row words : ℕ} → Needs table row words → ¬ IsSince (numbers_at table row) → Needs table (suc row) words

pub record NeedFollows : Type 0 where
  pub row : (n : Numbers) → OwnsStretch n
  pub table : (table : List ℕ) → Needs table (rows_of table) (need_of table)
  -- A good start answers it.
  pub start : (setup : Setup) (store : List ℕ) → Starts setup store → (start_of setup store).need ≡ need_of setup.table
