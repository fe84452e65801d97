-- `text::replies::write_moved` meets its contract: the time, the hyphens and the line feed, one after the other. Assumes nothing.
use mathlib.Core.List.{append_assoc}
use mathlib.Core.Path.{◌≡◌, refl, ap, ◌∙◌}
use Prim.Native.Nat.{◌≤◌}
use native.Mathlib.Omega.{arith}
use borrow.Rule.Slice.PartMut.{put_mid}
use lib.ListN.{length, drop, length-drop}
use lib.Seq.{length-take-le}
use Rattle.lines.proofs.OverLaws.{over_one, length_over}
use Rattle.text.specs.Replies.{time_digits, verdict_digits, hyphens, moved_line}
use Rattle.text.proofs.WroteLaws.{wrote-more, wrote-digits, over_part}
use Rattle.text.proofs.replies.write_moved.Goals as goal

pub returns : goal.returns
unfolding moved_line
returns c =
    let out = c.args.out.now in
    let timed = c.write_digits.new.out in
    let first = wrote-digits out time_digits c.args.time _ _ (omega arith) c.write_digits.ensures in
    let room : verdict_digits ≤ length (drop time_digits timed) = rw length-drop (omega arith) in
    let filled : c.fill.new.self ≡ hyphens verdict_digits = c.fill.ensures.after (λ y is. is) ∙ rw (length-take-le _ _ room) in
    let over = over_part timed time_digits verdict_digits (hyphens verdict_digits) refl in
    let size : length (put_mid time_digits verdict_digits timed (hyphens verdict_digits)) ≡ length timed =
    ap length over ∙ length_over timed time_digits (hyphens verdict_digits) (omega arith) in
    rw (filled, ← append_assoc)
    (wrote-more out _ _ _ _ _ _ (wrote-more out _ _ _ _ _ _ first refl over) refl (over_one _ _ _ (omega arith)))
