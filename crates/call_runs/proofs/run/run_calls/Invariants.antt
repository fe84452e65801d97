-- `call_runs::run::run_calls` meets its contract: a run that goes on at the place leaves what the whole run does. One turn is `one_turn`. Assumes nothing.
use mathlib.Core.Path.{◌≡◌}
use Rattle.soundness.specs.Setup.{setup_in}
use Rattle.call_runs.specs.Run.{run_of, calls_of}
use Rattle.call_runs.proofs.RunLaws.{going_on}
use Rattle.call_runs.proofs.run.run_calls.Given as goal

abbrev pub invariant-loop-place : goal.invariant-loop-place
invariant-loop-place g l =
    going_on (setup_in l.setup) g.S.Stamp.call l.stamps l.masks l.place l.kept l.store l.answers
    ≡ run_of (setup_in l.setup) l.initial.kept l.initial.store l.initial.answers (calls_of g.S.Stamp.call l.stamps l.masks)
