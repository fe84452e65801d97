-- `lines::line::line_length` meets its contract: the first line feed is where it is looked for. Assumes nothing.
use Rattle.std.proofs.Common.{sym, ◌∙◌, rules}
use borrow.Author.Tests.{tests}
use Rattle.std.proofs.lemmas.Iterator.{YieldsList-from_slice}
use Rattle.std.proofs.lemmas.Iterator.Search.{position_from_yields_List}
use Rattle.lines.proofs.LineLaws.{feeds, line-found, line-whole}
use Rattle.lines.proofs.line.line_length.Goals as goal

pub returns-in-Some : goal.returns-in-Some
returns-in-Some c =
    let rest = c.args.rest.now in
    line-found rest _
    (sym c.in-Some.is
    ∙ position_from_yields_List feeds _ _ _ c.position.ensures.ran (YieldsList-from_slice rest (cc)) (λ x b q k. search (rules, tests)))

pub returns-in-None : goal.returns-in-None
returns-in-None c =
    let rest = c.args.rest.now in
    line-whole rest
    (sym c.in-None.is
    ∙ position_from_yields_List feeds _ _ _ c.position.ensures.ran (YieldsList-from_slice rest (cc)) (λ x b q k. search (rules, tests)))
