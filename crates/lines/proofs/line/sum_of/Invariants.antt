-- `lines::line::sum_of` meets its contract. The loop: the sum is that of the pairs of digits passed. Assumes nothing.
use Rattle.std.proofs.Common.{◌≡◌, length}
use Rattle.lines.specs.Line.{sum_at}
use Rattle.lines.proofs.PairLaws.{PairsLeft}
use Rattle.lines.proofs.line.sum_of.Given as goal

abbrev pub invariant-loop-byte : goal.invariant-loop-byte
invariant-loop-byte l =
    (l.byte-iterator.size ≡ 2)
    × PairsLeft l.digits l.byte-iterator.rest.now (length l.yielded)
    × (l.sum ≡ sum_at l.digits 0 (length l.yielded))
