-- Streams with more calls: what they leave, the calls that they keep, and the true events among these.
use mathlib.Core.Bool.{Bool, true, false, cond, ◌&&◌}
use mathlib.Core.List.{List, [], ◌∷◌, ◌++◌}
use mathlib.Core.Path.{◌≡◌, refl, ap, ◌∙◌}
use Prim.Native.Nat.{ℕ, ◌≤◌, ◌<◌}
use lib.Dec.{leb}
use Rattle.meaning.specs.History.{Event, last_time}
use Rattle.meaning.specs.Heartbeat.{Heartbeat, heartbeat?, true_events}
use Rattle.meaning.proofs.SpansLaws.{by_leb}
use Rattle.meaning.proofs.Tells.{Tells, tells_leb, tells_eqb, tells_and, tells_same, told_true, told_false}
use Rattle.times.specs.Times.{time_limit}
use Rattle.soundness.specs.Setup.{Setup}
use Rattle.monitor.specs.Step.{Call, time_of}
use Rattle.promises.specs.Stream.{State, next, after, started, Keeps, keeps?, event_of, kept, clock, OneMore}

-- By cases: the call is kept, or its time is over the limit, or it is below the last.
pub keeps_cases : (P : Bool → Type 0) (last : ℕ) (c : Call)
    → (Keeps last c → P true)
    → (time_limit < time_of last c → P false)
    → (time_of last c ≤ time_limit → time_of last c < last → P false)
    → P (keeps? last c)
keeps_cases P last c kept late earlier =
    by_leb (λ within. P (within && leb last (time_of last c))) (time_of last c) time_limit
    (λ within. by_leb P last (time_of last c) (λ risen. kept (record { within = within; risen = risen })) (earlier within))
    late

pub after_append : (setup : Setup) (s : State) (calls more : List Call) → after setup s (calls ++ more) ≡ after setup (after setup s calls) more
unfolding after
after_append setup s [] more = refl
after_append setup s (c ∷ calls) more = after_append setup (next setup s c) calls more

pub kept_append : (before : List Event) (calls more : List Call) → kept before (calls ++ more) ≡ kept (kept before calls) more
unfolding kept
kept_append before [] more = refl
kept_append before (c ∷ calls) more = kept_append (cond (keeps? (last_time before) c) (event_of (last_time before) c ∷ before) before) calls more

keeps_told : (last : ℕ) (c : Call) → Tells (keeps? last c) (Keeps last c)
keeps_told last c =
    tells_same
    (λ both. record { within = both.0; risen = both.1 })
    (λ keeps. (keeps.within, keeps.risen))
    (tells_and (tells_leb (time_of last c) time_limit) (tells_leb last (time_of last c)))

-- Whether a mask is a heartbeat's.
pub beats_told : (mask : ℕ) → Tells (heartbeat? mask) (Heartbeat mask)
beats_told mask = tells_eqb _ 1

-- One kept call more, and the true events among those kept.
module _ (calls : List Call) (c : Call) where
  kept_more : Keeps (clock calls) c → kept [] (calls ++ (c ∷ [])) ≡ event_of (clock calls) c ∷ kept [] calls
  unfolding kept
  kept_more keeps = kept_append [] calls (c ∷ []) ∙ rw (told_true (keeps_told (clock calls) c) keeps)

  kept_same : ¬ Keeps (clock calls) c → kept [] (calls ++ (c ∷ [])) ≡ kept [] calls
  unfolding kept
  kept_same refused = kept_append [] calls (c ∷ []) ∙ rw (told_false (keeps_told (clock calls) c) refused)

pub event-more : (e : Event) (all : List Event) → ¬ Heartbeat e.mask → true_events (e ∷ all) ≡ e ∷ true_events all
unfolding true_events
event-more e all no-beat = rw (told_false (beats_told e.mask) no-beat)

pub beat_more : (e : Event) (all : List Event) → Heartbeat e.mask → true_events (e ∷ all) ≡ true_events all
unfolding true_events
beat_more e all beat = rw (told_true (beats_told e.mask) beat)

pub one_more : (setup : Setup) (store : List ℕ) (calls : List Call) (c : Call) → OneMore setup store calls c
unfolding after
one_more setup store calls c =
    record {
      left = after_append setup (started setup store) calls (c ∷ []);
      moved = λ keeps. ap last_time (kept_more calls c keeps);
      event = λ keeps no-beat. ap true_events (kept_more calls c keeps) ∙ event-more (event_of (clock calls) c) (kept [] calls) no-beat;
      heartbeat = λ keeps beat. ap true_events (kept_more calls c keeps) ∙ beat_more (event_of (clock calls) c) (kept [] calls) beat;
      other = λ refused. (ap last_time (kept_same calls c refused), ap true_events (kept_same calls c refused));
    }
