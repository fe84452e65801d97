-- `text::state::Stage::after_list` meets its contract: the empty line, or a refusal. Assumes nothing.
use Rattle.text.specs.Turn.{after_list}
use Rattle.text.proofs.TurnLaws.{turned_as}
use Rattle.text.proofs.state.Stage.after_list.Goals as goal

pub returns : goal.returns
unfolding after_list
returns c = turned_as _ _ c.args.self.now _ _ _ _ _ _ _ (c.refuse.ensures _ _) (rw (← c.is_empty.ensures, c.if-is_empty.false))
