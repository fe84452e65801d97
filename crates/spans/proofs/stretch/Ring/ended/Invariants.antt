-- `spans::stretch::Ring::ended` meets its contract. The loop: i spans ended, and the answer is i and what ended from the i-th on: one turn is
-- `ended_more` or `ended_stop`, by the last word at its place. Assumes nothing.
use mathlib.Core.Path.{◌≡◌}
use Prim.Native.Nat.{◌+◌, ◌-◌}
use Rattle.spans.specs.Layout.{round_from, spans_from, spans_held}
use Rattle.spans.specs.Stretch.{ended_count}
use Rattle.spans.proofs.stretch.Ring.ended.Given as goal

abbrev pub invariant-loop-i : goal.invariant-loop-i
invariant-loop-i l =
    ended_count l.time (spans_held l.self.words.now l.self.held)
    ≡ l.i + ended_count l.time (spans_from (round_from l.self.held.first l.self.words.now) l.i (l.self.held.count - l.i))
