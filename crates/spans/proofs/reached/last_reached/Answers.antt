-- `spans::reached::last_reached` meets its contract, by its two tests. Assumes nothing.
use mathlib.Core.Path.{sym, ◌∙◌}
use native.Mathlib.Omega.{arith}
use Rattle.spans.proofs.ReachedLaws.{marked, summed, reached-early, reached-late}
use Rattle.spans.proofs.reached.last_reached.Goals as goal

pub returns-then-time-gt-TIME_LIMIT : goal.returns-then-time-gt-TIME_LIMIT
returns-then-time-gt-TIME_LIMIT c = reached-late c.args.time c.args.limits.b c.if-time-gt-TIME_LIMIT.true

pub returns-then-has_no_end : goal.returns-then-has_no_end
returns-then-has_no_end c =
    let early = c in
    let args = early.args in
    marked args.time args.limits.b (sym c.has_no_end.ensures ∙ c.if-has_no_end.true) ∙ sym (reached-early args.time args.limits.b early.if-time-gt-TIME_LIMIT.false)

pub returns : goal.returns
returns c =
    let told = c in
    let early = told in
    let start = early in
    let ended = sym told.has_no_end.ensures ∙ c.if-has_no_end.false in
    summed start.args.time early.if-time-gt-TIME_LIMIT.false (omega arith) ended c.from.ensures
    ∙ sym (reached-early start.args.time start.args.limits.b early.if-time-gt-TIME_LIMIT.false)
