-- The induction over a stream behind the verdicts and the spans: the invariant holds after any list of calls, of the true events kept and the clock.
use mathlib.Core.Bool.{cond}
use mathlib.Core.List.{List, [], ◌∷◌}
use mathlib.Core.Path.{refl}
use Prim.Native.Nat.{ℕ}
use Rattle.meaning.specs.History.{Event, last_time}
use Rattle.meaning.specs.Heartbeat.{true_events}
use Rattle.soundness.specs.Setup.{Setup}
use Rattle.monitor.specs.Step.{Call}
use Rattle.promises.specs.Stream.{State, Starts, next, started, after, keeps?, event_of, kept, state, history, clock}
use Rattle.promises.specs.Conditions.{ListServes}
use Rattle.promises.proofs.Invariant.{Invariant}
use Rattle.promises.proofs.StartRight.{start_ready, start_right}
use Rattle.promises.proofs.CallKept.{next-kept}

calls-kept : (setup : Setup)
    → ListServes setup.table setup.list
    → (all : List Event) (s : State) (calls : List Call)
    → Invariant setup.table (true_events all) (last_time all) s
    → Invariant setup.table (true_events (kept all calls)) (last_time (kept all calls)) (after setup s calls)
unfolding kept after
calls-kept setup listed all s [] inv = inv
calls-kept setup listed all s (c ∷ calls) inv =
    calls-kept setup listed (cond (keeps? (last_time all) c) (event_of (last_time all) c ∷ all) all) (next setup s c) calls
    (next-kept setup listed all s inv c _ refl)

pub stream-kept : (setup : Setup) (store : List ℕ)
    → Starts setup store
    → (calls : List Call)
    → Invariant setup.table (history calls) (clock calls) (state setup store calls)
unfolding true_events
stream-kept setup store starts calls =
    calls-kept setup (start_ready setup store starts).listed [] (started setup store) calls (start_right setup store starts)
