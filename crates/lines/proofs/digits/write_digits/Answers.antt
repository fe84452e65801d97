use Rattle.std.proofs.Common.{◌≡◌, ◌+◌, ◌-◌, ◌<◌, suc, length, ap, ◌∙◌, arith}
use Rattle.lines.proofs.WriteLaws.{left_over, store_digit, all_written}
use Rattle.lines.proofs.digits.write_digits.Goals as goal

pub loop-left-preserved : goal.loop-left-preserved
loop-left-preserved c =
    let out = c.loop-left.out in
    let place = c.args.place in
    let some : suc (c.loop-left.left - 1) ≡ c.loop-left.left = omega arith in
    let within : place + (c.loop-left.left - 1) < length out = omega arith in
    rw c.digit_byte.ensures
    (store_digit out place (c.loop-left.left - 1) c.loop-left.rest within
    ∙ ap (λ k. left_over out place k c.loop-left.rest) some
    ∙ c.loop-left.invariant)

pub returns : goal.returns
returns c = all_written _ _ _ _ _ _ _ (omega arith) (omega arith) c.loop-left.invariant
