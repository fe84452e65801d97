-- `lines::rule::first_rule` meets its contract: a good line's numbers stand at their offsets. Assumes nothing.
use Rattle.std.proofs.Common.{arith}
use Rattle.lines.proofs.PartLaws.{part_value}
use Rattle.lines.proofs.rule.first_rule.Goals as goal

pub returns : goal.returns
returns c =
    λ some.
    let good = c.in_ok-digits.ensures in
    let digits = c.in_ok-digits.digits.now in
    let kind = part_value _ digits 24 0 2 _ good.1 good.2 (omega arith) c.number.ensures.value in
    let x = part_value _ digits 24 2 2 _ good.1 good.2 (omega arith) c.number-2.ensures.value in
    let y = part_value _ digits 24 4 2 _ good.1 good.2 (omega arith) c.number-3.ensures.value in
    let a = part_value _ digits 24 6 8 _ good.1 good.2 (omega arith) c.number-4.ensures.value in
    let b = part_value _ digits 24 14 8 _ good.1 good.2 (omega arith) c.number-5.ensures.value in
    rw (← c.is_list_line.ensures, c.if-is_list_line.false, good.0, ← kind, ← x, ← y, ← a, ← b)
