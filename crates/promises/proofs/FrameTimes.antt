-- Frame times are true times where only frames move the time. By induction over the calls, from any state where the stream's invariant holds: an event
-- leaves the clock where it is, and the time of a frame that is kept is its true time, which is then the clock. A refused call leaves all as it was.
use mathlib.Core.Bool.{Bool, true, false, cond}
use mathlib.Core.List.{List, [], ◌∷◌, ◌++◌, map}
use mathlib.Core.Path.{◌≡◌, refl, sym, ap, subst, ◌∙◌}
use Prim.Native.Nat.{ℕ, ◌≤◌}
use native.Mathlib.Omega.{arith}
use lib.Dec.{T}
use Rattle.meaning.specs.FrameTime.{counter_of, Close}
use Rattle.meaning.specs.History.{Event, last_time}
use Rattle.meaning.specs.Heartbeat.{true_events}
use Rattle.meaning.proofs.FrameTimeLaws.{true_close, next_true}
use Rattle.times.specs.Times.{time_limit}
use Rattle.soundness.specs.Setup.{Setup}
use Rattle.monitor.specs.Step.{Call, event, frame, time_of, Reply}
use Rattle.soundness.specs.Record.{clock_of}
use Rattle.promises.specs.Stream.{State, call, next, started, accepted?, Keeps, keeps?, event_of, kept}
use Rattle.promises.specs.LineTimes.{replies, record_times, Every, accepted_times}
use Rattle.promises.specs.FrameTimes.{frame_counters, of_frames, FrameTimesAreTrue}
use Rattle.promises.specs.Conditions.{ListServes}
use Rattle.promises.proofs.Invariant.{Invariant}
use Rattle.promises.proofs.StreamLaws.{keeps_cases}
use Rattle.promises.proofs.StartRight.{start_ready, start_right}
use Rattle.promises.proofs.CallKept.{kept_accepted, only_kept, next-kept}

-- Call by call, the counter of a frame is that of its true time.
data Counted : List Call → List ℕ → Type 0 where
  no_call : Counted [] []
  an_event : {time mask : ℕ} {calls : List Call} {times : List ℕ} → Counted calls times → Counted (event time mask ∷ calls) times
  a-frame : {counter mask time : ℕ} {calls : List Call} {times : List ℕ}
      → counter ≡ counter_of time
      → Counted calls times
      → Counted (frame counter mask ∷ calls) (time ∷ times)

counted : (calls : List Call) (times : List ℕ) → frame_counters calls ≡ map counter_of times → Counted calls times
unfolding frame_counters
counted [] [] same = no_call
counted [] (time ∷ times) same = let clash : ◌≡◌ {A = ℕ} 0 1 = cc in absurd (omega arith)
counted (event time mask ∷ calls) times same = an_event (counted calls times same)
counted (frame counter mask ∷ calls) [] same = let clash : ◌≡◌ {A = ℕ} 0 1 = cc in absurd (omega arith)
counted (frame counter mask ∷ calls) (time ∷ times) same =
    let here : counter ≡ counter_of time = cc in a-frame here (counted calls times (cc))

-- The kept calls after one more.
abbrev heard : List Event → Call → List Event
heard h c = cond (keeps? (last_time h) c) (event_of (last_time h) c ∷ h) h

-- Only frames move the time, from such a list on.
abbrev OnlyFramesFrom : List Event → List Call → Type 0
OnlyFramesFrom h calls = (before later : List Call) (time mask : ℕ)
    → calls ≡ before ++ (event time mask ∷ later)
    → Keeps (last_time (kept h before)) (event time mask)
    → time ≡ last_time (kept h before)

only_later : (h : List Event) (c : Call) (calls : List Call) → OnlyFramesFrom h (c ∷ calls) → OnlyFramesFrom (heard h c) calls
unfolding kept
only_later h c calls only before later time mask same =
    only (c ∷ before) later time mask (ap (λ (rest : List Call). c ∷ rest) same)

event-stays : (h : List Event) (time mask : ℕ) (calls : List Call)
    → OnlyFramesFrom h (event time mask ∷ calls)
    → last_time (heard h (event time mask)) ≡ last_time h
unfolding kept
event-stays h time mask calls only =
    keeps_cases (λ keeps. last_time (cond keeps (event_of (last_time h) (event time mask) ∷ h) h) ≡ last_time h) (last_time h) (event time mask)
    (λ keeps. only [] calls time mask refl keeps)
    (λ over. refl)
    (λ within below. refl)

heard_kept : (h : List Event) (c : Call) → Keeps (last_time h) c → heard h c ≡ event_of (last_time h) c ∷ h
heard_kept h c keeps =
    keeps_cases (λ keeps. cond keeps (event_of (last_time h) c ∷ h) h ≡ event_of (last_time h) c ∷ h) (last_time h) c
    (λ so. refl)
    (λ over. absurd (omega (arith, keeps.within)))
    (λ within below. absurd (omega (arith, keeps.risen)))

-- One call more.
module _ {setup : Setup} (listed : ListServes setup.table setup.list) (h : List Event) {s : State}
    (inv : Invariant setup.table (true_events h) (last_time h) s) where
  on : (c : Call) → Invariant setup.table (true_events (heard h c)) (last_time (heard h c)) (next setup s c)
  on c = next-kept setup listed h s inv c (heard h c) refl

  heard_refused : (c : Call) → accepted? (call setup s c).reply ≡ false → heard h c ≡ h
  heard_refused c refused =
      keeps_cases (λ keeps. cond keeps (event_of (last_time h) c ∷ h) h ≡ h) (last_time h) c
      (λ keeps. absurd (rw refused at (kept_accepted listed inv c keeps)))
      (λ over. refl)
      (λ within below. refl)

  -- A frame with the counter of the next true time: its time is that time, and where it is kept, the record's.
  module _ (counter mask time : ℕ) (times : List ℕ) (same : counter ≡ counter_of time) (close : Close (last_time h) (time ∷ times)) where
    is_true_lem : time_of (last_time h) (frame counter mask) ≡ time
    is_true_lem = rw same (next_true (last_time h) time times close)

    keeps : time ≤ time_limit → Keeps (last_time h) (frame counter mask)
    unfolding Close
    keeps within = record { within = omega (arith, is_true_lem); risen = omega (arith, is_true_lem, close.0) }

    moves : Keeps (last_time h) (frame counter mask) → last_time (heard h (frame counter mask)) ≡ time
    moves kept = ap last_time (heard_kept h (frame counter mask) kept) ∙ is_true_lem

    timed : Keeps (last_time h) (frame counter mask) → clock_of (next setup s (frame counter mask)).found ≡ time
    timed kept = (on (frame counter mask)).time ∙ moves kept

module _ (setup : Setup) (listed : ListServes setup.table setup.list) where
  abbrev AllTrue : State → List Call → List ℕ → Type 0
  AllTrue s calls times =
      Every (λ (reply : Reply). T (accepted? reply)) (of_frames calls (replies setup s calls)) × (of_frames calls (record_times setup s calls) ≡ times)

  all_true : (h : List Event) {s : State} {calls : List Call} {times : List ℕ}
      → Invariant setup.table (true_events h) (last_time h) s
      → OnlyFramesFrom h calls
      → Counted calls times
      → Close (last_time h) times
      → Every (λ (time : ℕ). time ≤ time_limit) times
      → AllTrue s calls times
  unfolding replies record_times of_frames Close
  all_true h inv only no_call close within = (tt, refl)
  all_true h inv only (an_event {time} {mask} {calls} {times} others) close within =
      all_true (heard h (event time mask)) (on listed h inv (event time mask)) (only_later h (event time mask) calls only) others
      (subst (λ (last : ℕ). Close last times) (sym (event-stays h time mask calls only)) close) within
  all_true h {s} inv only (a-frame {counter} {mask} {time} {calls} {times} same others) close (early, within) =
      let c = frame counter mask in
      let kept = keeps listed h inv counter mask time times same close early in
      let rest : AllTrue (next setup s c) calls times =
      all_true (heard h c) (on listed h inv c) (only_later h c calls only) others
      (subst (λ (last : ℕ). Close last times) (sym (moves listed h inv counter mask time times same close kept)) close.2) within
      in
      ((kept_accepted listed inv c kept, rest.0), rw (timed listed h inv counter mask time times same close kept, rest.1))

  -- Where the times of those that are accepted go on from the clock, the record has them.
  abbrev AcceptedTrue : List Call → List ℕ → Type 0
  AcceptedTrue calls times =
      (h : List Event) (s : State)
      → Invariant setup.table (true_events h) (last_time h) s
      → OnlyFramesFrom h calls
      → Close (last_time h) (accepted_times (of_frames calls (replies setup s calls)) times)
      → accepted_times (of_frames calls (replies setup s calls)) (of_frames calls (record_times setup s calls))
      ≡ accepted_times (of_frames calls (replies setup s calls)) times

  frame-more : (counter mask : ℕ) (calls : List Call) (time : ℕ) (times : List ℕ)
      → counter ≡ counter_of time
      → AcceptedTrue calls times
      → AcceptedTrue (frame counter mask ∷ calls) (time ∷ times)
  unfolding replies record_times of_frames accepted_times Close
  frame-more counter mask calls time times same more h s inv only = go (accepted? (call setup s c).reply) refl
    where
      c : Call
      c = frame counter mask

      answered : List Reply
      answered = of_frames (c ∷ calls) (replies setup s (c ∷ calls))

      later : (last : ℕ)
          → last_time (heard h c) ≡ last
          → Close last (accepted_times (of_frames calls (replies setup (next setup s c) calls)) times)
          → accepted_times (of_frames calls (replies setup (next setup s c) calls)) (of_frames calls (record_times setup (next setup s c) calls))
          ≡ accepted_times (of_frames calls (replies setup (next setup s c) calls)) times
      later last is close =
          more (heard h c) (next setup s c) (on listed h inv c) (only_later h c calls only)
          (subst (λ (from : ℕ). Close from (accepted_times (of_frames calls (replies setup (next setup s c) calls)) times)) (sym is) close)

      go : (yes : Bool)
          → accepted? (call setup s c).reply ≡ yes
          → Close (last_time h) (accepted_times answered (time ∷ times))
          → accepted_times answered (of_frames (c ∷ calls) (record_times setup s (c ∷ calls))) ≡ accepted_times answered (time ∷ times)
      go true e close =
          let accepted = accepted_times (of_frames calls (replies setup (next setup s c) calls)) times in
          let goes_on : Close (last_time h) (time ∷ accepted) = rw e at close in
          let kept = only_kept listed inv c (rw e tt) in
          rw (e, timed listed h inv counter mask time accepted same goes_on kept)
          (ap (λ (rest : List ℕ). time ∷ rest) (later time (moves listed h inv counter mask time accepted same goes_on kept) goes_on.2))
      go false e close = rw e (later (last_time h) (ap last_time (heard_refused listed h inv c e)) (rw e at close))

  accepted_true : {calls : List Call} {times : List ℕ} → Counted calls times → AcceptedTrue calls times
  unfolding replies record_times of_frames accepted_times
  accepted_true no_call = λ h s inv only close. refl
  accepted_true (an_event {time} {mask} {calls} {times} others) =
      λ h s inv only close.
      accepted_true others (heard h (event time mask)) (next setup s (event time mask)) (on listed h inv (event time mask))
      (only_later h (event time mask) calls only)
      (subst (λ (last : ℕ). Close last (accepted_times (of_frames calls (replies setup (next setup s (event time mask)) calls)) times))
      (sym (event-stays h time mask calls only)) close)
  accepted_true (a-frame {counter} {mask} {time} {calls} {times} same others) =
      frame-more counter mask calls time times same (accepted_true others)

pub frame_times_are_true : FrameTimesAreTrue
unfolding kept true_events
frame_times_are_true setup store calls times starts only same =
    let listed = (start_ready setup store starts).listed in
    let begun : Invariant setup.table [] 0 (started setup store) = start_right setup store starts in
    let call-by-call = counted calls times same in
    record {
      all = λ true-times. all_true setup listed [] begun only call-by-call (true_close times true-times);
      accepted_ones = λ true-times. accepted_true setup listed call-by-call [] (started setup store) begun only (true_close _ true-times);
    }
