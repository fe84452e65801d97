-- `muktrashi::take_whole` meets its contract: what is ready, with room for a line a byte, is taken whole (`taken-whole`). Assumes nothing.
use Rattle.muktrashi.proofs.LoopLaws.{taken-whole}
use Rattle.muktrashi.proofs.take_whole.Goals as goal

pub returns : goal.returns
returns c = taken-whole _ _ _ _ _ _ _ _ _ _ c.requires c.step.ensures
