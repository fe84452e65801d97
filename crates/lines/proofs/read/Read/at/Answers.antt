-- `lines::read::Read::at` meets its contract: the next place is past the first line feed, at the end too. Assumes nothing.
use Rattle.std.proofs.Common.{◌≡◌, ◌-◌, length, sym, arith, length-drop}
use Rattle.lines.proofs.LineLaws.{past_end, past-most}
use Rattle.lines.proofs.read.Read.at.Goals as goal

pub returns-then-text-place-clause-next : goal.returns-then-text-place-clause-next
returns-then-text-place-clause-next g c = sym (past_end _ _ c.if-text-place.true)

pub overflow_add-result : goal.overflow_add-result
overflow_add-result g c =
    let rest = c.rest_at-rest.result.now in
    let size : length rest ≡ length c.args.text.now - c.args.place = rw c.rest_at-rest.ensures (length-drop c.args.place c.args.text.now) in
    omega (arith, past-most rest)
