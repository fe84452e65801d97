-- `spans::stretch::Ring::clip` meets its contract: what its three callees do to the words is `clip_written`. Assumes nothing.
use Rattle.spans.proofs.ClipLaws.{clip_written}
use Rattle.spans.proofs.stretch.Ring.clip.Goals as goal

pub returns-clause-kept : goal.returns-clause-kept
returns-clause-kept c =
    let left = c.drop_first in
    rw (c.raise_first.ensures.raised, c.raise_first.ensures.same_held, left.ensures.freed)
    (clip_written c.args.self.now c.args.time c.ended-gone.result left.new.self.held c.ended-gone.ensures left.ensures.placed left.ensures.left)
