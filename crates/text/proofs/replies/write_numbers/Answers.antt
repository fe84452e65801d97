-- `text::replies::write_numbers` meets its contract: the two numbers and the line feed, one after the other. Assumes nothing.
use mathlib.Core.List.{append_assoc}
use mathlib.Core.Path.{refl}
use native.Mathlib.Omega.{arith}
use Rattle.lines.proofs.OverLaws.{over_one}
use Rattle.lines.proofs.WriteLaws.{length_digits}
use Rattle.text.specs.Replies.{reply_line}
use Rattle.text.proofs.WroteLaws.{wrote-more, wrote-digits, over-digits}
use Rattle.text.proofs.replies.write_numbers.Goals as goal

pub returns : goal.returns
unfolding reply_line
returns c =
    let out = c.args.out.now in
    let first = wrote-digits out c.args.n c.args.first _ _ (omega arith) c.write_digits.ensures in
    let second = over-digits c.write_digits.new.out c.args.n c.args.m c.args.second _ _ (omega arith) c.write_digits-2.ensures in
    let both = wrote-more out _ c.args.n _ _ c.args.m _ first (length_digits c.args.m c.args.second) second in
    rw (← append_assoc) (wrote-more out _ _ _ _ _ _ both refl (over_one c.write_digits-2.new.out _ _ (omega arith)))
