-- `lines::list::is_list_line` meets its contract: the text goes on with two bytes of the mark. Assumes nothing.
use Rattle.std.proofs.Common.{◌≡◌, ◌∙◌, add-zero, drop}
use lib.Dec.{lit<}
use lib.Seq.{get_or-drop}
use Rattle.lines.specs.Digits.{byte_at}
use Rattle.lines.specs.ListLine.{list_marked}
use Rattle.lines.proofs.LineLaws.{begins_two}
use Rattle.lines.proofs.list.is_list_line.Goals as goal

pub returns : goal.returns
unfolding list_marked
returns c =
    let text = c.args.text.now in
    let place = c.args.place in
    let first : byte_at (drop place text) 0 ≡ byte_at text place = get_or-drop place text 0 0 ∙ rw add-zero in
    rw c.rest_at.ensures at c.starts_with.ensures.value ∙ begins_two (drop place text) 65 (lit< tt) ∙ rw (first, get_or-drop place text 1 0)
