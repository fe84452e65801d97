-- Bad input is refused by number exactly under the listed conditions, and a refused call changes nothing. For each call: what the table of refusals
-- names is answered, what passes is not refused, and one of the two is so.
use mathlib.Core.Bool.{Bool, true, false, cond}
use mathlib.Core.List.{List}
use mathlib.Core.Logic.{◌⊎◌, inr, ◌↔◌, ⊎_elim, ⊎_map}
use mathlib.Core.Option.{Option, none, some}
use mathlib.Core.Path.{◌≡◌, refl, sym, ◌∙◌}
use Prim.Native.Nat.{ℕ, ◌≤◌, ◌<◌}
use native.Mathlib.Omega.{arith}
use borrow.Author.Tests.{le-leb, lt-leb}
use lib.ListN.{length}
use Rattle.meaning.specs.FrameTime.{frame_time}
use Rattle.meaning.specs.Heartbeat.{heartbeat?}
use Rattle.meaning.proofs.SpansLaws.{le_or_lt}
use Rattle.meaning.proofs.Tells.{tells_decided, told_true, told_false}
use Rattle.refusals.specs.Refusals.{Refused, refused}
use Rattle.rules.specs.Table.{CheckReply, passed, refused_by, check_of}
use Rattle.refusals.specs.declared.refusal.Refusal.TheVariants.{Earlier, Late, Unsound}
use Rattle.soundness.specs.declared.record.Record.{Record}
use Rattle.times.specs.FrameTime.{at, not_at, frame_time_of}
use Rattle.times.specs.Times.{time_limit}
use Rattle.soundness.specs.Record.{nothing_seen, clock_of}
use Rattle.soundness.specs.Ready.{ready_of}
use Rattle.monitor.specs.Event.{Moment, record_after}
use Rattle.monitor.specs.Start.{begin, start_of}
use Rattle.soundness.specs.Setup.{Setup}
use Rattle.monitor.specs.Step.{Call, time_of, refusal_of, moment_of, verdict_of, verdict, clock_moved, refusal, accepted_reply, outcome_by, step_of}
use Rattle.promises.specs.Conditions.{Ready, RecordRight}
use Rattle.promises.specs.Refusing.{TableRefused, StartRefused, CallRefused, start, seven, six, five, RefusedExactly, RefusalChangesNothing}
use Rattle.promises.proofs.Deciding.{exactly}
use Rattle.promises.proofs.TableRefusals.{table-refuses, table-passes, table_decided, room_of, start-refuses, start-passes, start_decided}
use Rattle.promises.proofs.RecordTold.{record_told}

check_exactly : (table : List ℕ) (fault : Refused) → (check_of table ≡ refused_by fault) ↔ TableRefused table fault
check_exactly table =
    exactly (check_of table) refused_by
    (λ f g e. cc)
    (table-refuses table)
    (λ right fault e. let passes = table-passes table right in let clash : ◌≡◌ {A = ℕ} 0 1 = cc in omega arith)
    (table_decided table)

start_exactly : (setup : Setup) (store : List ℕ) (fault : Refused) → ((start_of setup store).refusal ≡ some fault) ↔ StartRefused setup (length store) fault
unfolding start_of
start_exactly setup store =
    exactly (start_of setup store).refusal some
    (λ f g e. cc)
    (λ fault wrong. rw (start-refuses setup (length store) fault wrong))
    (λ ready fault e.
    let passes : (start_of setup store).refusal ≡ none = rw (start-passes setup (length store) ready) in
    let clash : ◌≡◌ {A = ℕ} 0 1 = cc in
    omega arith)
    (start_decided setup (length store))

-- What an accepted call is answered is no refusal.
pub unrefused : (setup : Setup) (m : Moment) (fault : Refused) → ¬ (accepted_reply setup m ≡ refusal fault)
unrefused setup m fault = go (heartbeat? m.mask)
  where
    go : (beat : Bool) → ¬ (cond beat clock_moved (verdict (verdict_of setup (record_after m).truths)) ≡ refusal fault)
    go true same = let clash : ◌≡◌ {A = ℕ} 0 1 = cc in omega arith
    go false same = let clash : ◌≡◌ {A = ℕ} 0 1 = cc in omega arith

-- No condition on a call fails.
pub record Accepted (setup : Setup) (store : List ℕ) (found : Record) (c : Call) : Type 0 where
  pub ready : Ready setup (length store)
  pub sound : RecordRight setup.table store found
  pub early : time_of (clock_of found) c ≤ time_limit
  pub risen : clock_of found ≤ time_of (clock_of found) c

module _ (setup : Setup) (store : List ℕ) (found : Record) (c : Call) where
  call-refuses : (fault : Refused) → CallRefused setup store found c fault → refusal_of setup store found c ≡ some fault
  unfolding refusal_of
  call-refuses fault (start wrong) = rw (start-refuses setup (length store) fault wrong)
  call-refuses _ (seven ready wrong) =
      rw (start-passes setup (length store) ready, told_false (record_told setup.table store (room_of ready) found) wrong)
  call-refuses _ (six ready right late) =
      rw (
        start-passes setup (length store) ready,
        told_true (record_told setup.table store (room_of ready) found) right,
        lt-leb (time_of (clock_of found) c) time_limit late,
      )
  call-refuses _ (five ready right early before) =
      rw (
        start-passes setup (length store) ready,
        told_true (record_told setup.table store (room_of ready) found) right,
        le-leb (time_of (clock_of found) c) time_limit early,
        lt-leb (clock_of found) (time_of (clock_of found) c) before,
      )

  pub call_passes : Accepted setup store found c → refusal_of setup store found c ≡ none
  unfolding refusal_of
  call_passes accepted =
      rw (
        start-passes setup (length store) accepted.ready,
        told_true (record_told setup.table store (room_of accepted.ready) found) accepted.sound,
        le-leb (time_of (clock_of found) c) time_limit accepted.early,
        le-leb (clock_of found) (time_of (clock_of found) c) accepted.risen,
      )

  -- One of the two is so: by the times, by the record, and from the start.
  abbrev Decided : Type 0
  Decided = Accepted setup store found c ⊎ ((fault : Refused) × CallRefused setup store found c fault)

  times_decided : Ready setup (length store) → RecordRight setup.table store found → Decided
  times_decided ready sound =
      ⊎_elim
      (λ early.
      ⊎_map
      (λ risen. record { ready = ready; sound = sound; early = early; risen = risen })
      (λ before. (refused Earlier, five ready sound early before))
      (le_or_lt (clock_of found) (time_of (clock_of found) c)))
      (λ late. inr (refused Late, six ready sound late))
      (le_or_lt (time_of (clock_of found) c) time_limit)

  record_decided : Ready setup (length store) → Decided
  record_decided ready =
      ⊎_elim
      (times_decided ready)
      (λ wrong. inr (refused Unsound, seven ready wrong))
      (tells_decided (record_told setup.table store (room_of ready) found))

  call-decided : Decided
  call-decided = ⊎_elim record_decided (λ wrong. inr (wrong.0, start wrong.1)) (start_decided setup (length store))

  pub accepted_of : refusal_of setup store found c ≡ none → Accepted setup store found c
  accepted_of passes =
      ⊎_elim
      (λ accepted. accepted)
      (λ wrong. let refuses = call-refuses wrong.0 wrong.1 in let clash : ◌≡◌ {A = ℕ} 0 1 = cc in absurd (omega arith))
      call-decided

  call-exactly : (fault : Refused) → ((step_of setup store found c).reply ≡ refusal fault) ↔ CallRefused setup store found c fault
  unfolding step_of
  call-exactly =
      exactly (step_of setup store found c).reply refusal
      (λ f g e. cc)
      (λ fault wrong. rw (call-refuses fault wrong))
      (λ accepted fault e.
      let m = moment_of setup store found c in
      let replied : (step_of setup store found c).reply ≡ accepted_reply setup m = rw (call_passes accepted) in
      unrefused setup m fault (sym replied ∙ e))
      call-decided

time_exactly : (last counter : ℕ) (fault : Refused) → (frame_time_of last counter ≡ not_at fault) ↔ ((time_limit < last) × (fault ≡ refused Late))
unfolding frame_time_of
time_exactly last counter =
    exactly (frame_time_of last counter) not_at
    (λ f g e. cc)
    (λ fault wrong. rw (lt-leb last time_limit wrong.0, wrong.1))
    (λ early fault e.
    let answered : at (frame_time last counter) ≡ not_at fault = rw (le-leb last time_limit early) at e in
    let clash : ◌≡◌ {A = ℕ} 0 1 = cc in
    omega arith)
    (⊎_map (λ early. early) (λ late. (refused Late, (late, refl))) (le_or_lt last time_limit))

pub refused_exactly : RefusedExactly
refused_exactly = record { check = check_exactly; start = start_exactly; call = call-exactly; time = time_exactly }

-- What stands beside a refusal.
outcome-refused : (setup : Setup) (store : List ℕ) (found : Record) (m : Moment) (o : Option Refused) (fault : Refused)
    → (outcome_by setup store found m o).reply ≡ refusal fault
    → ((outcome_by setup store found m o).left ≡ found) × ((outcome_by setup store found m o).store ≡ store)
outcome-refused setup store found m none fault e = absurd (unrefused setup m fault e)
outcome-refused setup store found m (some first) fault e = (refl, refl)

begin-refused : (store : List ℕ) (said : CheckReply) (fault : Refused)
    → (begin store said).refusal ≡ some fault
    → ((begin store said).given ≡ nothing_seen 0) × ((begin store said).store ≡ store)
begin-refused store (passed rows need) fault e = let clash : ◌≡◌ {A = ℕ} 0 1 = cc in absurd (omega arith)
begin-refused store (refused_by first) fault e = (refl, refl)

pub refusal_changes_nothing : RefusalChangesNothing
unfolding step_of start_of
refusal_changes_nothing =
    record {
      call = λ setup store found c. outcome-refused setup store found (moment_of setup store found c) (refusal_of setup store found c);
      start = λ setup store. begin-refused store (ready_of setup (length store));
    }
