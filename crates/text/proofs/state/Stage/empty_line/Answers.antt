-- `text::state::Stage::empty_line` meets its contract: the monitor's answer decides. Assumes nothing.
use Rattle.text.proofs.TurnLaws.{start-good, start-refused}
use Rattle.text.proofs.state.Stage.empty_line.Goals as goal

pub returns-in-Ok : goal.returns-in-Ok
returns-in-Ok c =
    start-good c.args.self.now c.args.table.now c.args.store.now _ _ _ (rw c.numbers.ensures at c.start.ensures) _ c.in-Ok.is

pub returns-in-Err : goal.returns-in-Err
returns-in-Err c =
    start-refused c.args.self.now c.args.table.now c.args.store.now _ _ _ (rw c.numbers.ensures at c.start.ensures) _ c.in-Err.is _ _
    (c.refuse.ensures _ _)
