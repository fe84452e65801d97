-- `lines::list::read_list` meets its contract: a list at a place is the list that the rest begins with. Assumes nothing.
use Rattle.std.proofs.Common.{rules}
use Rattle.row_list.specs.RowList.{numbers_of}
use Rattle.lines.specs.ListLine.{read_list}
use Rattle.lines.proofs.RestLaws.{list_ends, list-here, found_here, list_found}
use Rattle.lines.proofs.list.read_list.Goals as goal

pub returns : goal.returns
returns c =
    let text = c.args.text.now in
    let place = c.args.place in
    record {
      said =
          found_here numbers_of (λ bytes. (read_list bytes 0).said) text place _ (list_ends text place) (list-here text place) _ _ _
          c.at.ensures.next c.at.ensures.found (λ line made. (made.0.now, made.2, search rules));
      list = list_found text place _ _ c.at.ensures.found (λ line made. (made.0.now, made.2, search rules));
    }
