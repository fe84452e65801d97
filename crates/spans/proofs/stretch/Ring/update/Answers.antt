-- `spans::stretch::Ring::update` meets its contract: what each callee writes is read by the next (`ring_updated`). Assumes nothing.
use Rattle.spans.proofs.UpdateLaws.{ring_updated}
use Rattle.spans.proofs.stretch.Ring.update.Goals as goal

pub returns-clause-updated : goal.returns-clause-updated
returns-clause-updated c =
    let kept = c.clip_or_clear in
    let fed = c.join_or_not in
    ring_updated c.args.self.now kept.new.self fed.new.self c.args.keep c.args.feed c.args.time c.args.span kept.ensures.same_words kept.ensures.kept
    fed.ensures.fed c.covers.ensures
