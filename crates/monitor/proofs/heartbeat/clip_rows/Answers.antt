use Rattle.std.proofs.Common.{◌+◌, ◌≤◌, length, arith, rules}
use Rattle.monitor.proofs.TurnLaws.{few-rows, clipped-none, clip-inside, count-kept, first-kept, clip-turn, clipped-all}
use Rattle.monitor.proofs.heartbeat.clip_rows.Goals as goal

pub loop-row-init : goal.loop-row-init
loop-row-init c = record { few = few-rows c.requires; done = clipped-none c.requires }

-- The row's stretch lies within the store.
pub overflow_add-end : goal.overflow_add-end
overflow_add-end c =
    let inside : c.loop-row.from + c.words.result ≤ length c.loop-row.store =
    clip-inside c.requires c.loop-row.invariant.done (omega arith) c.numbers_at.ensures c.words.ensures in
    search rules

pub offset_bounds-store-from : goal.offset_bounds-store-from
offset_bounds-store-from c =
    let inside : c.loop-row.from + c.words.result ≤ length c.loop-row.store =
    clip-inside c.requires c.loop-row.invariant.done (omega arith) c.numbers_at.ensures c.words.ensures in
    search rules

pub slice_bounds-clip-end : goal.slice_bounds-clip-end
slice_bounds-clip-end c =
    let inside : c.loop-row.from + c.words.result ≤ length c.loop-row.store =
    clip-inside c.requires c.loop-row.invariant.done (omega arith) c.numbers_at.ensures c.words.ensures in
    omega arith

-- What is left of the row's spans is counted by numbers of the record.
pub overflow_cast-kept : goal.overflow_cast-kept
overflow_cast-kept c =
    record { fits = count-kept c.requires c.loop-row.invariant.done (omega arith) c.numbers_at.ensures c.words.ensures _ c.clip-left.ensures }

pub overflow_cast-kept-in-loop-row : goal.overflow_cast-kept-in-loop-row
overflow_cast-kept-in-loop-row c =
    record { fits = first-kept c.requires c.loop-row.invariant.done (omega arith) c.numbers_at.ensures c.words.ensures _ c.clip-left.ensures }

pub loop-row-preserved : goal.loop-row-preserved
loop-row-preserved c =
    record {
      few = c.loop-row.invariant.few;
      done = clip-turn c.requires c.loop-row.invariant.done (omega arith) c.numbers_at.ensures c.words.ensures c.clip-left.ensures;
    }

pub returns : goal.returns
returns c = λ mask beat. clipped-all c.requires beat c.loop-row.invariant.done (omega arith)
