-- `text::feed::step` meets its contract: what is not ready is left as it is, the turns of its loop, and its ends (`Going`). Assumes nothing.
use mathlib.Core.Path.{◌≡◌, refl, sym, ◌∙◌}
use native.Mathlib.Omega.{arith}
use lib.ListN.{length}
use Rattle.text.specs.Feed.{memory_of}
use Rattle.text.proofs.FeedLaws.{step_left, ready_room, going_first, going_ends, going-byte, feed-end, feed-full}
use Rattle.text.proofs.feed.step.Goals as goal

pub returns-then-not-is_ready : goal.returns-then-not-is_ready
returns-then-not-is_ready c = step_left _ _ _ _ _ (sym c.is_ready.ensures ∙ c.if-not-is_ready.true)

pub loop-used-init : goal.loop-used-init
loop-used-init c =
    going_first _ _ _ (ready_room (memory_of c.args.state.now c.args.table.now c.args.store.now) (sym c.is_ready.ensures ∙ c.if-not-is_ready.false))

pub returns-then-out-wrote-lt-LONGEST_REPLY : goal.returns-then-out-wrote-lt-LONGEST_REPLY
returns-then-out-wrote-lt-LONGEST_REPLY c =
    let at = c.loop-used in
    going_ends _ _ _ (memory_of at.state at.table at.store) _ _ _ at.invariant
    (feed-full _ _ _ _ c.loop-used-test.true c.if-out-wrote-lt-LONGEST_REPLY.true)

pub loop-used-preserved : goal.loop-used-preserved
loop-used-preserved c =
    let at = c.loop-used in
    let taken = c.take-wrote in
    going-byte _ _ _ (memory_of at.state at.table at.store) _ _ _ at.invariant _ refl c.loop-used-test.true
    c.if-out-wrote-lt-LONGEST_REPLY.false
    taken.new.state
    taken.new.table
    taken.new.store
    _
    taken.new.out
    taken.ensures
    taken.auto.table
    taken.auto.out

pub returns : goal.returns
returns c =
    let at = c.loop-used in
    let all : length c.args.piece.now ≡ at.used = omega arith in
    rw all (going_ends _ _ _ (memory_of at.state at.table at.store) _ _ _ at.invariant (feed-end _ _ _ _ c.loop-used-test.false))
