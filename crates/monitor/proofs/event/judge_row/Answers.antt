-- `monitor::event::judge_row` meets its contract: the laws of one row, of one that owns a stretch and of one that does not. Assumes nothing.
use Rattle.kinds.proofs.KindsLaws.{plain-said, stretch-said}
use Rattle.monitor.proofs.RowLaws.{same-taken, stretch-judged, plain-judged}
use Rattle.monitor.proofs.event.judge_row.Goals as goal

pub returns-in-Plain : goal.returns-in-Plain
returns-in-Plain c = plain-judged _ c.requires (plain-said _ c.in-Plain.ensures) c.judge_plain.ensures

pub returns-in-Stretch : goal.returns-in-Stretch
returns-in-Stretch c =
    let done = rw (
      c.keeps-keep.ensures,
      same-taken c.in-Stretch.columns.when c.truth_at-fed.result,
      c.truth_at-fed.ensures,
      c.feeder.ensures,
      c.reached-span.ensures,
      c.limits.ensures,
    ) at c.update-updated.ensures in
    stretch-judged _ c.requires (stretch-said _ c.in-Stretch.ensures) done (same-taken c.in-Stretch.columns.inside c.update-updated.result.covered)
