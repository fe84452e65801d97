-- `soundness::soundness::sound_rows` meets its contract. The loop's invariant: every row passed is sound, and the next stretch begins where theirs end.
-- Assumes nothing.
use mathlib.Core.Bool.{true}
use mathlib.Core.Path.{◌≡◌}
use Rattle.rules.specs.Stretches.{offset}
use Rattle.soundness.specs.Soundness.{every, sound_row?}
use Rattle.soundness.proofs.soundness.sound_rows.Given as goal

abbrev pub invariant-loop-row : goal.invariant-loop-row
invariant-loop-row l = (l.from ≡ offset l.table l.row) × (every l.row (sound_row? l.table l.store l.found) ≡ true)
