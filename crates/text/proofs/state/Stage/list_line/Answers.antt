-- `text::state::Stage::list_line` meets its contract: what was read of the line decides. Assumes nothing.
use Rattle.text.proofs.TurnLaws.{list-at_end, list-refused}
use Rattle.text.proofs.state.Stage.list_line.Goals as goal

pub returns-in-Some-Err : goal.returns-in-Some-Err
returns-in-Some-Err c =
    let refusal = rw c.in-Some-Err.is at c.in-Some-Err.field-0-is in
    λ table store. rw (list-refused _ _ c.read_list.ensures _ _ c.in-Some-Err.is refusal) (c.refuse.ensures table store)

pub returns-in-None : goal.returns-in-None
returns-in-None c = λ table store. rw (list-at_end _ _ c.read_list.ensures c.in-None.is) (c.refuse-in-None.ensures table store)
