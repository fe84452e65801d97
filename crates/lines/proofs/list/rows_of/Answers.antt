use Rattle.std.proofs.Common.{◌≡◌, ◌+◌, ◌*◌, ◌/◌, ◌≤◌, ◌<◌, length, refl, sym, ◌∙◌, arith, zero-add}
use Rattle.lines.specs.Digits.{hex_at}
use Rattle.lines.proofs.ListLaws.{store-row, rows-done}
use Rattle.lines.proofs.PairLaws.{pairs_none, pairs_more, pair_value, pairs_end}
use Rattle.lines.proofs.list.rows_of.Goals as goal

pub loop-row-init : goal.loop-row-init
loop-row-init c =
    let first : c.into_iter-row-iterator.result.count ≡ 0 = cc in
    rw first (cc, pairs_none _ _ (cc), refl)

pub loop-row-preserved : goal.loop-row-preserved
loop-row-preserved c =
    let digits = c.args.digits.now in
    let k = c.loop-row.row-iterator.count in
    let steps = c.in-Some.ensures.steps in
    let left = c.loop-row.invariant.1 in
    let two : length c.in-Some.row_digits.now ≡ 2 = steps.0.1.1 ∙ c.loop-row.invariant.0 in
    let value : c.number.result ≡ hex_at digits (2 * k) 2 =
    rw two at c.number.ensures.value ∙ sym (pair_value digits _ _ _ k left steps.0.1.0 two) in
    let more = pairs_more digits _ _ _ k left steps.0.1.0 two in
    let within : 2 * (k + 1) ≤ length digits = more.within in
    let room : k < 16 = omega arith in
    rw (steps.2, steps.1)
    (steps.0.0 ∙ c.loop-row.invariant.0, more, rw c.loop-row.invariant.2 (store-row digits 0 0 k _ room (rw (zero-add, zero-add) value)))

pub returns : goal.returns
returns c =
    let digits = c.args.digits.now in
    let all : c.loop-row.row-iterator.count ≡ length digits / 2 =
    pairs_end _ _ _ c.loop-row.invariant.1 (rw c.loop-row.invariant.0 at c.in-None.ensures.steps.0.1.0) in
    rw (c.loop-row.invariant.2, ← all) (rows-done digits 0 0 c.loop-row.row-iterator.count)
