-- `lines::frame::read_frame` meets its contract: a frame at a place is the frame that the rest begins with. Assumes nothing.
use Rattle.std.proofs.Common.{rules}
use Rattle.lines.specs.Frame.{frame_widths, frame_numbers, read_frame}
use Rattle.lines.proofs.RestLaws.{line_ends, line-here, found_here}
use Rattle.lines.proofs.frame.read_frame.Goals as goal

pub returns : goal.returns
returns c =
    let text = c.args.text.now in
    let place = c.args.place in
    found_here frame_numbers (λ bytes. (read_frame bytes 0).said) text place _
    (λ past. line_ends text place past frame_widths)
    (λ within. line-here text place within frame_widths)
    _ _ _ c.at.ensures.next c.at.ensures.found (λ line made. (made.0.now, made.2, search rules))
