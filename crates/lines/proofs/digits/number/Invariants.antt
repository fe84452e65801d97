-- `lines::digits::number` meets its contract. The loop: the value is that of the digits passed. Assumes nothing.
use mathlib.Core.Path.{◌≡◌}
use Rattle.lines.specs.Digits.{hex_at}
use Rattle.lines.proofs.digits.number.Given as goal

abbrev pub invariant-loop-byte : goal.invariant-loop-byte
invariant-loop-byte l = l.value ≡ hex_at l.digits 0 l.byte-index
