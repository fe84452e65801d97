-- `text::replies::Reply::write` meets its contract: the mark of a refusal, and its number and row after it. Assumes nothing.
use mathlib.Core.Path.{sym}
use native.Mathlib.Omega.{arith}
use Rattle.lines.specs.Digits.{byte_digits}
use Rattle.refusals.specs.Refusals.{number_of}
use Rattle.text.specs.Replies.{refusal_mark, reply_line}
use Rattle.text.proofs.WroteLaws.{wrote-more, wrote-digits, over_rest}
use Rattle.text.proofs.replies.Reply.write.Goals as goal

pub returns-in-Refused : goal.returns-in-Refused
returns-in-Refused c =
    let out = c.args.out.now in
    let marked = c.write_digits.new.out in
    let mark = wrote-digits out byte_digits refusal_mark _ _ (omega arith) c.write_digits.ensures in
    let rest = rw (c.from-number.ensures, c.number.ensures, c.from-row.ensures) at c.write_numbers-in-Refused.ensures in
    let line = reply_line byte_digits (number_of c.in-Refused.fault) byte_digits c.in-Refused.row in
    rw c.in-Refused.is (wrote-more out _ _ marked line _ _ mark (sym rest.count) (over_rest marked byte_digits line _ (omega arith) rest.bytes))
