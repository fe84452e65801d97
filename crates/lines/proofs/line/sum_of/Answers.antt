use Rattle.std.proofs.Common.{◌≡◌, ◌*◌, ◌≤◌, ◌<◌, length, refl, ◌∙◌, sym, arith}
use Rattle.std.proofs.lemmas.List.{length_push}
use Rattle.lines.specs.Digits.{hex_at}
use Rattle.lines.specs.Line.{sum_at}
use Rattle.lines.proofs.PairLaws.{pairs_none, pairs_more, pair_value, sum_more, sum-room}
use Rattle.lines.proofs.line.sum_of.Goals as goal

pub loop-byte-init : goal.loop-byte-init
unfolding sum_at
loop-byte-init c = (cc, pairs_none _ _ (cc), refl)

pub overflow_add-sum : goal.overflow_add-sum
overflow_add-sum c =
    let k = length c.loop-byte.yielded in
    let two : length c.in-Some.byte.now ≡ 2 = c.in-Some.ensures.steps.1.1 ∙ c.loop-byte.invariant.0 in
    let below : c.number-sum.result < 256 = rw two at c.number-sum.ensures.fits in
    let within : 2 * k ≤ length c.args.digits.now = c.loop-byte.invariant.1.within in
    record { fits = sum-room c.args.digits.now k _ _ c.loop-byte.invariant.2 (omega arith) below }

pub loop-byte-preserved : goal.loop-byte-preserved
loop-byte-preserved c =
    let digits = c.args.digits.now in
    let k = length c.loop-byte.yielded in
    let steps = c.in-Some.ensures.steps in
    let two : length c.in-Some.byte.now ≡ 2 = steps.1.1 ∙ c.loop-byte.invariant.0 in
    let value : c.number-sum.result ≡ hex_at digits (2 * k) 2 =
    rw two at c.number-sum.ensures.value ∙ sym (pair_value digits _ _ _ k c.loop-byte.invariant.1 steps.1.0 two) in
    rw length_push
    (steps.0 ∙ c.loop-byte.invariant.0, pairs_more digits _ _ _ k c.loop-byte.invariant.1 steps.1.0 two, sum_more digits k _ _ c.loop-byte.invariant.2 value)
