-- `lines::digits::write_digits` meets its contract. The loop: the digits that are left, written over what is there, are all the digits
-- written over what was there at entry. Assumes nothing.
use mathlib.Core.Path.{◌≡◌}
use Rattle.lines.proofs.WriteLaws.{left_over}
use Rattle.lines.proofs.digits.write_digits.Given as goal

abbrev pub invariant-loop-left : goal.invariant-loop-left
invariant-loop-left l = left_over l.out l.place l.left l.rest ≡ left_over l.initial.out l.place l.n l.value
