-- `monitor::step::event` meets its contract: a refusal of `fit`, the time over the limit or below the clock, or what the rows leave. Assumes nothing.
use Rattle.std.proofs.Common.{sym, ◌∙◌}
use Rattle.std.proofs.lemmas.Result.{err_from_is_err_and}
use Rattle.refusals.specs.declared.refusal.Refusal.TheVariants.{Earlier, Late}
use Rattle.monitor.specs.Step.{event}
use Rattle.monitor.proofs.StepLaws.{gives-refused, fit_refused, fit_gives, late, earlier, unrefused, gives-moved, gives-verdict}
use Rattle.monitor.proofs.step.event.Goals as goal

pub returns-in_err-fit : goal.returns-in_err-fit
returns-in_err-fit c =
    let told = err_from_is_err_and c.from_residual.result c.from_residual.ensures.1 in
    rw (told.1, told.2) (gives-refused _ _ _ _ _ (fit_refused _ _ _ _ _ c.in_err-fit.ensures))

pub returns-then-time-gt-TIME_LIMIT : goal.returns-then-time-gt-TIME_LIMIT
returns-then-time-gt-TIME_LIMIT c =
    gives-refused _ _ _ _ Late (late _ (fit_gives _ _ _ _ _ c.in_ok-fit.ensures) c.if-time-gt-TIME_LIMIT.true)

pub returns-then-time-kept : goal.returns-then-time-kept
returns-then-time-kept c =
    gives-refused _ _ _ _ Earlier (earlier _ (fit_gives _ _ _ _ _ c.in_ok-fit.ensures) c.if-time-gt-TIME_LIMIT.false c.if-time-kept.true)

-- Nothing refuses the call from here on.
pub clip_rows-requires : goal.clip_rows-requires
clip_rows-requires c =
    let fits = fit_gives _ _ _ _ _ c.in_ok-fit.ensures in
    record { passes = λ mask. unrefused (event c.args.time mask) fits c.if-time-gt-TIME_LIMIT.false c.if-time-kept.false }

pub returns-then-is_heartbeat : goal.returns-then-is_heartbeat
returns-then-is_heartbeat c =
    let beat = sym c.is_heartbeat.ensures ∙ c.if-is_heartbeat.true in
    gives-moved _ _ _ _ _
    (unrefused (event c.args.time c.args.mask) (fit_gives _ _ _ _ _ c.in_ok-fit.ensures) c.if-time-gt-TIME_LIMIT.false c.if-time-kept.false)
    (c.clip_rows.ensures c.args.mask beat) beat

pub judge_rows-requires-clause-unrefused : goal.judge_rows-requires-clause-unrefused
judge_rows-requires-clause-unrefused c =
    let fits = fit_gives _ _ _ _ _ c.in_ok-fit.ensures in
    record { passes = λ mask. unrefused (event c.args.time mask) fits c.if-time-gt-TIME_LIMIT.false c.if-time-kept.false }

pub returns : goal.returns
returns c =
    rw c.verdict.ensures
    (gives-verdict _ _ _ _ _
    (unrefused (event c.args.time c.args.mask) (fit_gives _ _ _ _ _ c.in_ok-fit.ensures) c.if-time-gt-TIME_LIMIT.false c.if-time-kept.false)
    c.judge_rows.ensures (sym c.is_heartbeat.ensures ∙ c.if-is_heartbeat.false))
