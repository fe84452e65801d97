-- What the private functions of src/stretch say of a stretch as it is read, round from its first place.
use Rattle.std.specs.Prelude.{List, ◌++◌, ℕ}
use Rattle.meaning.specs.Spans.{Span}
use Rattle.spans.specs.Layout.{spans_from}
use Rattle.sound_spans.specs.declared.stretch.Ring.{Ring}

abbrev pub words_read : Ring → List ℕ
words_read ring = ring.later.now ++ ring.early.now

abbrev pub spans_read : Ring → List Span
spans_read ring = spans_from (words_read ring) 0 ring.count
