-- `lines::frame::first_frame` meets its contract: a good line's numbers stand at their offsets. Assumes nothing.
use Rattle.std.proofs.Common.{arith}
use Rattle.lines.proofs.PartLaws.{part_value}
use Rattle.lines.proofs.frame.first_frame.Goals as goal

pub returns : goal.returns
returns c =
    λ some.
    let good = c.in_ok-digits.ensures in
    let digits = c.in_ok-digits.digits.now in
    let counter = part_value _ digits 14 0 4 _ good.1 good.2 (omega arith) c.number.ensures.value in
    let mask = part_value _ digits 14 4 8 _ good.1 good.2 (omega arith) c.number-2.ensures.value in
    rw (good.0, ← counter, ← mask)
