use mathlib.Core.Path.{sym, ◌∙◌}
use native.Mathlib.Omega.{arith}
use lib.Seq.{drop-cons}
use Rattle.soundness.specs.Setup.{setup_in}
use Rattle.call_runs.proofs.RunLaws.{one_turn, ended}
use Rattle.call_runs.proofs.run.run_calls.Goals as goal

pub loop-place-preserved : goal.loop-place-preserved
loop-place-preserved g c =
    let place = c.loop-place.place in
    let stamp = c.index-stamps-place.result in
    let stamped = rw (← c.index-stamps-place.is) at (drop-cons c.args.stamps.now place stamp (omega arith)) in
    one_turn (setup_in c.args.setup) g.S.Stamp.call c.args.stamps.now c.args.masks.now place _ _ _ _ c.loop-place.answers stamp _ _ _ stamped
    (drop-cons c.args.masks.now place 0 (omega arith)) (omega arith) c.judge-answer.ensures c.code.ensures c.loop-place.invariant

pub returns : goal.returns
returns g c =
    sym (ended (setup_in c.args.setup) g.S.Stamp.call c.args.stamps.now c.args.masks.now c.loop-place.place _ _ c.loop-place.answers (omega arith))
    ∙ c.loop-place.invariant
