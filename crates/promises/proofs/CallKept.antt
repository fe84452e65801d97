-- One call, where the invariant holds. A kept call is accepted, and the invariant holds of the longer history, or of the same one at a heartbeat; any
-- other is refused, 6 over the limit and else 5, and changes nothing.
use mathlib.Core.Bool.{cond}
use mathlib.Core.List.{List, ◌∷◌}
use mathlib.Core.Logic.{◌⊎◌, inl, inr, ⊎_elim}
use mathlib.Core.Option.{none}
use mathlib.Core.Path.{◌≡◌, ap}
use Prim.Native.Nat.{ℕ, ◌≤◌, ◌<◌}
use native.Mathlib.Omega.{arith}
use lib.Dec.{T}
use Rattle.meaning.specs.History.{Event, History, last_time}
use Rattle.meaning.specs.Heartbeat.{true_events}
use Rattle.meaning.proofs.Tells.{tells_decided, told_true, told_false}
use Rattle.refusals.specs.Refusals.{Refused, refused}
use Rattle.refusals.specs.declared.refusal.Refusal.TheVariants.{Earlier, Late}
use Rattle.times.specs.Times.{time_limit}
use Rattle.soundness.specs.Record.{clock_of}
use Rattle.soundness.specs.Setup.{Setup}
use Rattle.monitor.specs.Step.{Call, time_of, mask_of, refusal_of, verdict_of, verdict, clock_moved, refusal, step_of}
use Rattle.promises.specs.Stream.{State, call, next, accepted?, Keeps, keeps?, event_of, Beats}
use Rattle.promises.proofs.Invariant.{Invariant}
use Rattle.promises.specs.Conditions.{ListServes}
use Rattle.promises.specs.Refusing.{six, five}
use Rattle.promises.proofs.TableRefusals.{ready_of_lem}
use Rattle.promises.proofs.Refusing.{call_passes, refused_exactly, refusal_changes_nothing}
use Rattle.promises.proofs.StreamLaws.{keeps_cases, beats_told, event-more, beat_more}
use Rattle.promises.proofs.EventKept.{event-kept}
use Rattle.promises.proofs.HeartbeatKept.{heartbeat-kept}

-- A refused call leaves the state.
pub refused_same : (setup : Setup) (s : State) (c : Call) {fault : Refused} → (call setup s c).reply ≡ refusal fault → next setup s c ≡ s
refused_same setup s c {fault} refused =
    let (left, words) = refusal_changes_nothing.call setup s.store s.found c fault refused in rw (left, words)

module _ {setup : Setup} {h : History} {clock : ℕ} {s : State} (listed : ListServes setup.table setup.list) (inv : Invariant setup.table h clock s)
    (c : Call) where
  -- The time of the call is the stream's.
  time_same : time_of (clock_of s.found) c ≡ time_of clock c
  time_same = ap (λ (last : ℕ). time_of last c) inv.time

  unrefused : Keeps clock c → refusal_of setup s.store s.found c ≡ none
  unrefused keeps =
      call_passes setup s.store s.found c
      (record {
        ready = ready_of_lem listed inv.ready;
        sound = inv.sound;
        early = omega (arith, time_same, keeps.within);
        risen = omega (arith, time_same, inv.time, keeps.risen);
      })

  -- What is answered.
  pub kept-reply : Keeps clock c → ¬ Beats c → (call setup s c).reply ≡ verdict (verdict_of setup (call setup s c).left.truths)
  unfolding step_of
  kept-reply keeps no-beat = rw (unrefused keeps, told_false (beats_told (mask_of c)) no-beat)

  pub moved-reply : Keeps clock c → Beats c → (call setup s c).reply ≡ clock_moved
  unfolding step_of
  moved-reply keeps beat = rw (unrefused keeps, told_true (beats_told (mask_of c)) beat)

  pub kept_accepted : Keeps clock c → T (accepted? (call setup s c).reply)
  kept_accepted keeps =
      ⊎_elim
      (λ beat. rw (moved-reply keeps beat) tt)
      (λ no-beat. rw (kept-reply keeps no-beat) tt)
      (tells_decided (beats_told (mask_of c)))

  pub late-reply : time_limit < time_of clock c → (call setup s c).reply ≡ refusal (refused Late)
  late-reply over =
      (refused_exactly.call setup s.store s.found c (refused Late)).1
      (six (ready_of_lem listed inv.ready) inv.sound (omega (arith, time_same)))

  pub earlier-reply : time_of clock c ≤ time_limit → time_of clock c < clock → (call setup s c).reply ≡ refusal (refused Earlier)
  earlier-reply within below =
      (refused_exactly.call setup s.store s.found c (refused Earlier)).1
      (five (ready_of_lem listed inv.ready) inv.sound (omega (arith, time_same)) (omega (arith, time_same, inv.time)))

  -- A kept call keeps the invariant: of the longer history at a true event, of the same one at a heartbeat.
  pub call_kept : Keeps clock c → ¬ Beats c → Invariant setup.table (event_of clock c ∷ h) (time_of clock c) (next setup s c)
  unfolding step_of
  call_kept keeps no-beat =
      rw (unrefused keeps, time_same)
      (event-kept inv (time_of clock c) (mask_of c) keeps.risen keeps.within (told_false (beats_told (mask_of c)) no-beat))

  pub clock-kept : Keeps clock c → Beats c → Invariant setup.table h (time_of clock c) (next setup s c)
  unfolding step_of
  clock-kept keeps beat =
      rw (unrefused keeps, time_same)
      (heartbeat-kept inv (time_of clock c) (mask_of c) keeps.risen keeps.within (told_true (beats_told (mask_of c)) beat))

  -- By cases on what was answered: only kept calls are accepted, and no other refusal than 6 and 5 is met.
  pub only_kept : T (accepted? (call setup s c).reply) → Keeps clock c
  only_kept accepted =
      keeps_cases (λ _. Keeps clock c) clock c
      (λ keeps. keeps)
      (λ over. absurd (rw (late-reply over) at accepted))
      (λ within below. absurd (rw (earlier-reply within below) at accepted))

  pub only-judged : (number : ℕ) → (call setup s c).reply ≡ verdict number → Keeps clock c × (¬ Beats c)
  only-judged number judged =
      let keeps : Keeps clock c = only_kept (rw judged tt) in
      (keeps, λ beat. let moved = moved-reply keeps beat in let clash : ◌≡◌ {A = ℕ} 0 1 = cc in omega arith)

  pub only-moved : (call setup s c).reply ≡ clock_moved → Keeps clock c × Beats c
  only-moved moved =
      let keeps : Keeps clock c = only_kept (rw moved tt) in (
        keeps,
        ⊎_elim
            (λ beat. beat)
            (λ no-beat. let judged = kept-reply keeps no-beat in let clash : ◌≡◌ {A = ℕ} 0 1 = cc in absurd (omega arith))
            (tells_decided (beats_told (mask_of c))),
      )

  pub refused-only : (fault : Refused) → (call setup s c).reply ≡ refusal fault → (fault ≡ refused Late) ⊎ (fault ≡ refused Earlier)
  refused-only fault said =
      keeps_cases (λ _. (fault ≡ refused Late) ⊎ (fault ≡ refused Earlier)) clock c
      (λ keeps. absurd (rw said at (kept_accepted keeps)))
      (λ over. let reply = late-reply over in inl (cc))
      (λ within below. let reply = earlier-reply within below in inr (cc))

-- Any call keeps the invariant, of the true events among those kept, with its own where it is kept.
pub next-kept : (setup : Setup)
    → ListServes setup.table setup.list
    → (all : List Event) (s : State)
    → Invariant setup.table (true_events all) (last_time all) s
    → (c : Call)
    → (more : List Event)
    → more ≡ cond (keeps? (last_time all) c) (event_of (last_time all) c ∷ all) all
    → Invariant setup.table (true_events more) (last_time more) (next setup s c)
next-kept setup listed all s inv c more same =
    rw same
    (keeps_cases
    (λ keeps. let events = cond keeps (event_of (last_time all) c ∷ all) all in
    Invariant setup.table (true_events events) (last_time events) (next setup s c))
    (last_time all)
    c
    (λ keeps.
    ⊎_elim
    (λ beat. rw (beat_more (event_of (last_time all) c) all beat) (clock-kept listed inv c keeps beat))
    (λ no-beat. rw (event-more (event_of (last_time all) c) all no-beat) (call_kept listed inv c keeps no-beat))
    (tells_decided (beats_told (mask_of c))))
    (λ over. rw (refused_same setup s c (late-reply listed inv c over)) inv)
    (λ within below. rw (refused_same setup s c (earlier-reply listed inv c within below)) inv))
