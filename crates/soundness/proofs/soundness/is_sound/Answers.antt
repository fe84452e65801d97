-- `soundness::soundness::is_sound` meets its contract: its tests are those of the definition. Assumes nothing.
use Rattle.std.proofs.Common.{rules}
use native.Mathlib.Omega.{arith}
use Rattle.soundness.specs.Soundness.{sound?}
use Rattle.soundness.proofs.ReadyLaws.{table_ready}
use Rattle.soundness.proofs.soundness.is_sound.Goals as goal

pub zero_past-requires : goal.zero_past-requires
zero_past-requires c = omega (arith, (table_ready _ _ c.requires).passes.few-rows)

pub returns-then-sound_rows : goal.returns-then-sound_rows
unfolding sound?
returns-then-sound_rows c = search rules

pub returns-else-sound_rows : goal.returns-else-sound_rows
unfolding sound?
returns-else-sound_rows c = search rules
