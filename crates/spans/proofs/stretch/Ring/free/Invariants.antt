-- `spans::stretch::Ring::free` meets its contract. The loop: the words of the first i places are `freed` in what is read from the first place on; one turn
-- is `freed-more`. Assumes nothing.
use mathlib.Core.Path.{◌≡◌}
use Rattle.spans.specs.Layout.{round_from, freed}
use Rattle.spans.specs.Ring.{SameWords}
use Rattle.spans.proofs.stretch.Ring.free.Given as goal

abbrev pub invariant-loop-i : goal.invariant-loop-i
invariant-loop-i l =
    record {
      same_words : SameWords l.fn.self l.self;
      same_held : l.self.held ≡ l.fn.self.held;
      freed : round_from l.fn.self.held.first l.self.words.now ≡ freed l.i (round_from l.fn.self.held.first l.fn.self.words.now);
    }
