-- How many spans a since row may need (document 01, "Spans, store and record"). Stated once; nothing else computes it.
use Rattle.std.specs.Prelude.{ℕ, ◌+◌, ◌-◌, ◌/◌}
use Rattle.meaning.specs.Interval.{End, up_to, no_end}

-- "floor(b/(b-a+2))+1 spans, or 1 when b has no end".
unfoldable pub figure : ℕ → End → ℕ
figure a (up_to b) = b / (b - a + 2) + 1
figure a no_end = 1
