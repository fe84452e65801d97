-- `sound_spans::stretch::span_sound` meets its contract: its tests are those of `sound_span?`. Assumes nothing.
use Rattle.std.proofs.Common.{arith}
use Rattle.std.proofs.lemmas.Grind.{common_steps}
use Rattle.sound_spans.specs.StretchSound.{sound_span?}
use Rattle.sound_spans.proofs.stretch.span_sound.Goals as goal

pub returns-then-first-bounds : goal.returns-then-first-bounds
unfolding sound_span?
returns-then-first-bounds c = grind (arith, common_steps)

pub returns-else-first-bounds : goal.returns-else-first-bounds
unfolding sound_span?
returns-else-first-bounds c = grind (arith, common_steps)

pub returns-else-last-bounds : goal.returns-else-last-bounds
unfolding sound_span?
returns-else-last-bounds c = grind (arith, common_steps)
