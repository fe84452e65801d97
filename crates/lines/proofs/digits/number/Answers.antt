-- There is room for one more digit: fewer than 16 have been read.
use Rattle.std.proofs.Common.{◌≡◌, ◌<◌, length, refl, arith}
use Rattle.lines.specs.Digits.{hex_at}
use Rattle.lines.proofs.DigitLaws.{digit_value-below, hex_at-below, hex_at-room, hex_more}
use Rattle.lines.proofs.digits.number.Goals as goal

pub loop-byte-init : goal.loop-byte-init
unfolding hex_at
loop-byte-init c = refl

pub overflow_mul-value : goal.overflow_mul-value
overflow_mul-value c = omega (arith, hex_at-room c.args.digits.now c.loop-byte.byte-index (omega arith))

pub overflow_add-value : goal.overflow_add-value
overflow_add-value c =
    let below : c.digit_value.result < 16 = rw c.digit_value.ensures (digit_value-below _) in
    omega (arith, hex_at-room c.args.digits.now c.loop-byte.byte-index (omega arith))

pub loop-byte-preserved : goal.loop-byte-preserved
loop-byte-preserved c = hex_more c.args.digits.now c.loop-byte.byte-index _ _ c.loop-byte.invariant c.digit_value.ensures

pub returns-clause-fits : goal.returns-clause-fits
returns-clause-fits c =
    let all : c.loop-byte.byte-index ≡ length c.args.digits.now = omega arith in
    rw (← all) (omega (arith, hex_at-below c.args.digits.now 0 c.loop-byte.byte-index))
