-- The spans that a row must hold (document 01, "Spans, store and record").
use Rattle.std.specs.Prelude.{List, ◌↔◌, ℕ, ◌≤◌}
use Rattle.meaning.specs.Interval.{End}
use Rattle.meaning.specs.History.{History}
use Rattle.meaning.specs.Formula.{Reached}
use Rattle.meaning.specs.Spans.{Span, In, Rising}

-- "A row's spans are the maximal runs of values u, u at least t, for which some accepted event j has y true, x true at every accepted event
-- after j, and u-t(j) in [a,b]": the rising list, a gap between each two, whose members are exactly these.
pub record Runs (x y : History → Type 0) (a : ℕ) (b : End) (h : History) (t : ℕ) (S : List Span) : Type 0 where
  pub rising : Rising t S
  pub exact : (u : ℕ) → In u S ↔ ((t ≤ u) × Reached x y a b h u)
