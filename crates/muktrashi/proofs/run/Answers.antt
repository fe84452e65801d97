use mathlib.Core.List.{List}
use mathlib.Core.Path.{◌≡◌, sym, ap}
use Prim.Native.Nat.{ℕ, ◌-◌, ◌^◌, ◌≤◌}
use native.Mathlib.Omega.{arith}
use lib.ListN.{length}
use lib.Seq.{length-take-le}
use Rattle.rules.specs.Limits.{row_limit}
use Rattle.text.specs.declared.feed.Fed.{Fed}
use Rattle.text.specs.declared.state.State.{State}
use Rattle.text.specs.Feed.{Memory, step_fed, memory_of, fresh, Stepped}
use Rattle.text.proofs.FeedLaws.{step_rows}
use Rattle.muktrashi.proofs.LoopLaws.{went-first, some_read, went_on, looped_on, looped_end}
use Rattle.muktrashi.proofs.run.Goals as goal

-- The rows that a state counts are never too many.
fresh-rows : (s : State) → s ≡ fresh → s.stage.rows ≤ row_limit
unfolding fresh
fresh-rows s is = rw is (omega arith)

stepped-rows : (state : State) (table store piece out : List ℕ) (state' : State) (table' store' : List ℕ) (fed : Fed) (after : List ℕ)
    → Stepped state table store piece out state' table' store' fed after
    → state.stage.rows ≤ row_limit
    → state'.stage.rows ≤ row_limit
stepped-rows state table store piece out state' table' store' fed after stepped most =
    let same : state'.stage.rows ≡ (step_fed state table store piece out).left.desk.stage.rows =
    ap (λ (m : Memory). m.desk.stage.rows) stepped.left in
    rw same (step_rows (memory_of state table store) (length out) piece most)

pub loop-turns-init : goal.loop-turns-init
loop-turns-init c =
    record {
      ready =
          record { counted = fresh-rows c.fresh-state.result c.fresh-state.ensures; rows = c.requires.rows; lines = c.requires.lines };
      bytes = c.requires.bytes;
      went = went-first _ _ _ c.fresh-state.ensures c.requires.words;
    }

pub returns-then-n-eq0 : goal.returns-then-n-eq0
returns-then-n-eq0 c = looped_end _ _ _ _ _ c.loop-turns.invariant.went _ _ _ c.end.ensures

pub returns-then-not-took_all : goal.returns-then-not-took_all
returns-then-not-took_all c =
    let some = some_read _ _ (sym (length-take-le _ _ c.bytes_read-n.ensures)) c.if-n-eq0.false in
    looped_on _ _ _ _ _ (went_on _ _ _ _ _ _ _ _ _ _ _ _ c.loop-turns.invariant.went some c.take_whole-fed.ensures) _

pub loop-turns-preserved : goal.loop-turns-preserved
loop-turns-preserved c =
    let some = some_read _ _ (sym (length-take-le _ _ c.bytes_read-n.ensures)) c.if-n-eq0.false in
    let before = c.loop-turns.invariant.ready in
    record {
      ready =
          record {
            counted = stepped-rows _ _ _ _ _ _ _ _ _ _ c.take_whole-fed.ensures.stepped before.counted;
            rows = omega arith;
            lines = omega arith;
          };
      bytes = omega arith;
      went = went_on _ _ _ _ _ _ _ _ _ _ _ _ c.loop-turns.invariant.went some c.take_whole-fed.ensures;
    }

pub returns : goal.returns
returns c =
    let all : 2 ^ 64 - 1 ≡ c.loop-turns.turns = omega arith in
    rw all (looped_on _ _ _ _ _ c.loop-turns.invariant.went _)
