-- `monitor::event::reached` meets its contract: the span is what the event reaches, as it was computed. Assumes nothing.
use Rattle.std.proofs.Common.{refl, ◌∙◌}
use Rattle.spans.proofs.ReachedLaws.{reached-early}
use Rattle.monitor.proofs.event.reached.Goals as goal

pub returns : goal.returns
returns c = rw (c.last_reached.ensures ∙ reached-early c.args.time c.args.limits.b c.requires) (rw c.from.ensures refl)
