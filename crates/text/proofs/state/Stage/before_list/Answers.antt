-- `text::state::Stage::before_list` meets its contract: the empty line first, then the list line, then the number of rows. Assumes nothing.
use borrow.Author.Tests.{le-leb}
use Rattle.text.specs.Turn.{before_list}
use Rattle.text.proofs.TurnLaws.{turned_as}
use Rattle.text.proofs.state.Stage.before_list.Goals as goal

pub returns-then-self-ge-ROW_LIMIT : goal.returns-then-self-ge-ROW_LIMIT
unfolding before_list
returns-then-self-ge-ROW_LIMIT c =
    turned_as _ _ c.args.self.now _ _ _ _ _ _ _ (c.refuse.ensures _ _)
    (rw (
      ← c.is_empty.ensures,
      c.if-is_empty.false,
      ← c.is_list_line.ensures,
      c.if-is_list_line.false,
      le-leb _ _ c.if-self-ge-ROW_LIMIT.true,
    ))
