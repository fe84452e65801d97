-- `text::feed::step` meets its contract. The loop over the bytes: what is left to do, after what was used and written, is all there was to do
-- (`Going`). Assumes nothing.
use Rattle.text.specs.Feed.{memory_of}
use Rattle.text.proofs.FeedLaws.{Going}
use Rattle.text.proofs.feed.step.Given as goal

abbrev pub invariant-loop-used : goal.invariant-loop-used
invariant-loop-used l =
    Going (memory_of l.initial.state l.initial.table l.initial.store) l.piece l.initial.out (memory_of l.state l.table l.store) l.out l.used l.wrote
