-- `monitor::step::frame` meets its contract: the event at the time that its counter shows. Assumes nothing.
use Rattle.monitor.proofs.StepLaws.{frame_at}
use Rattle.monitor.proofs.step.frame.Goals as goal

pub returns : goal.returns
returns c = rw (frame_at, ← c.time_shown-time.ensures) c.event.ensures
