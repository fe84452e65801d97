-- `lines::line::is_right` meets its contract: its tests are the definition's. Assumes nothing.
use Rattle.std.proofs.Common.{◌≡◌, ◌≤◌, ◌∙◌, sym, ap, length, arith}
use lib.Dec.{eqb}
use lib.ListN.{get_or-eq_default}
use borrow.Author.Tests.{le-ltb}
use Rattle.lines.specs.Digits.{byte_at}
use Rattle.lines.specs.Line.{line_feed}
use Rattle.lines.proofs.LineLaws.{told_short, told_fed}
use Rattle.lines.proofs.line.is_right.Goals as goal

pub returns-then-leading_digits-n : goal.returns-then-leading_digits-n
returns-then-leading_digits-n c =
    sym (told_short c.args.rest.now c.args.n (rw c.leading_digits.ensures at c.if-leading_digits-n.true))

pub returns-then-n-rest : goal.returns-then-n-rest
returns-then-n-rest c = sym (told_fed c.args.rest.now c.args.n (sym c.leading_digits.ensures ∙ c.if-leading_digits-n.false))

pub returns-else-n-rest : goal.returns-else-n-rest
returns-else-n-rest c =
    let past : length c.args.rest.now ≤ c.args.n = omega arith in
    let missing : byte_at c.args.rest.now c.args.n ≡ 0 = get_or-eq_default c.args.rest.now 0 past in
    le-ltb _ _ past
    ∙ sym (told_fed c.args.rest.now c.args.n (sym c.leading_digits.ensures ∙ c.if-leading_digits-n.false) ∙ ap (λ byte. eqb byte line_feed) missing)
