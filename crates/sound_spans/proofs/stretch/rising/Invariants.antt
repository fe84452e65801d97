-- `sound_spans::stretch::rising` meets its contract. The loop: the answer of the words that are left is the whole answer, where the next span may begin from
-- `least`; one turn is `rising_turn`. Assumes nothing.
use mathlib.Core.Path.{◌≡◌}
use Rattle.std.specs.Slice.Iter.{chunks_exact_rest, chunks_exact_size}
use Rattle.spans.specs.Layout.{span_words}
use Rattle.sound_spans.specs.StretchSound.{sound_from?, spans_straight}
use Rattle.sound_spans.proofs.stretch.rising.Given as goal

abbrev pub invariant-loop-span : goal.invariant-loop-span
invariant-loop-span l =
    record {
      can_next : (goal.iterator-loop-span).can_next l.span-iterator;
      is_finite : (goal.iterator-loop-span).is_finite l.span-iterator;
      pairs : chunks_exact_size l.span-iterator ≡ span_words;
      told : sound_from? l.fn.least l.bounds.time l.bounds.latest_last l.bounds.long (spans_straight l.words)
          ≡ sound_from? l.least l.bounds.time l.bounds.latest_last l.bounds.long (spans_straight (chunks_exact_rest l.span-iterator));
    }
