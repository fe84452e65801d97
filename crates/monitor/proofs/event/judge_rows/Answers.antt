use Rattle.std.proofs.Common.{◌+◌, ◌≤◌, length, ◌∙◌, arith, rules}
use Rattle.row_list.proofs.TruthsLaws.{byte_told}
use Rattle.monitor.proofs.TurnLaws.{few-rows, judged-none, row-inside, row-ready, row-count, row-first, row-turn, judged-all}
use Rattle.monitor.proofs.event.judge_rows.Goals as goal

pub loop-row-init : goal.loop-row-init
loop-row-init c = record { few = few-rows c.requires.unrefused; done = judged-none c.requires.unrefused _ }

-- The row's stretch lies within the store.
pub overflow_add-end : goal.overflow_add-end
overflow_add-end c =
    let inside : c.loop-row.from + c.words.result ≤ length c.loop-row.store =
    row-inside c.requires.unrefused _ c.loop-row.invariant.done (omega arith) c.numbers_at-numbers.ensures c.words.ensures in
    search rules

pub offset_bounds-store-from : goal.offset_bounds-store-from
offset_bounds-store-from c =
    let inside : c.loop-row.from + c.words.result ≤ length c.loop-row.store =
    row-inside c.requires.unrefused _ c.loop-row.invariant.done (omega arith) c.numbers_at-numbers.ensures c.words.ensures in
    search rules

pub slice_bounds-judge_row-end : goal.slice_bounds-judge_row-end
slice_bounds-judge_row-end c =
    let inside : c.loop-row.from + c.words.result ≤ length c.loop-row.store =
    row-inside c.requires.unrefused _ c.loop-row.invariant.done (omega arith) c.numbers_at-numbers.ensures c.words.ensures in
    omega arith

pub judge_row-judged-requires : goal.judge_row-judged-requires
judge_row-judged-requires c =
    row-ready c.requires.unrefused _ c.loop-row.invariant.done (omega arith) c.numbers_at-numbers.ensures c.words.ensures

-- What is held of the row's spans is counted by numbers of the record.
pub overflow_cast-kept : goal.overflow_cast-kept
overflow_cast-kept c =
    record {
      fits =
          row-count c.requires.unrefused _ c.loop-row.invariant.done (omega arith) c.numbers_at-numbers.ensures c.words.ensures
          c.judge_row-judged.ensures.left;
    }

pub overflow_cast-kept-in-loop-row : goal.overflow_cast-kept-in-loop-row
overflow_cast-kept-in-loop-row c =
    record {
      fits =
          row-first c.requires.unrefused _ c.loop-row.invariant.done (omega arith) c.numbers_at-numbers.ensures c.words.ensures
          c.judge_row-judged.ensures.left;
    }

pub loop-row-preserved : goal.loop-row-preserved
loop-row-preserved c =
    record {
      few = c.loop-row.invariant.few;
      done =
          row-turn c.requires.unrefused _ c.loop-row.invariant.done (omega arith) c.numbers_at-numbers.ensures c.words.ensures
          c.judge_row-judged.ensures (c.from.ensures ∙ byte_told c.judge_row-judged.result.truth);
    }

pub returns : goal.returns
returns c = judged-all c.requires.unrefused _ c.requires.no_beat c.loop-row.invariant.done (omega arith)
