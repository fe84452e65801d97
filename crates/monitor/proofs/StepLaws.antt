-- Which refusal decides a call, and what a call leaves by it.
use mathlib.Core.Bool.{Bool, true, false, cond}
use mathlib.Core.List.{List}
use mathlib.Core.Option.{Option, none, some}
use mathlib.Core.Path.{◌≡◌, refl, sym}
use Prim.Native.Nat.{ℕ, ◌^◌, ◌≤◌, ◌<◌}
use native.Mathlib.Omega.{arith}
use lib.Dec.{leb}
use lib.ListN.{length}
use borrow.Author.Tests.{le-leb, lt-leb, leb-false}
use Rattle.std.specs.Prelude.{Result, Ok, Err}
use Rattle.meaning.specs.FrameTime.{frame_time}
use Rattle.meaning.specs.Heartbeat.{heartbeat?}
use Rattle.refusals.specs.Refusals.{Refused, refused, ◌or_else◌}
use Rattle.rules.specs.Table.{CheckReply, passed, refused_by}
use Rattle.refusals.specs.declared.refusal.Refusal.{Refusal}
use Rattle.refusals.specs.declared.refusal.Refusal.TheVariants.{Earlier, Late, Unsound}
use Rattle.soundness.specs.declared.record.Record.{Record}
use Rattle.monitor.specs.declared.answer.Accepted.{Accepted}
use Rattle.times.specs.FrameTime.{time_shown}
use Rattle.times.specs.Times.{time_limit}
use Rattle.row_list.specs.RowList.{list_limit}
use Rattle.row_list.specs.Verdict.{verdict_number}
use Rattle.soundness.specs.Record.{clock_of}
use Rattle.soundness.specs.Soundness.{sound?}
use Rattle.soundness.specs.Ready.{ready_of, refusal_in}
use Rattle.soundness.specs.Setup.{Setup}
use Rattle.monitor.specs.Step.{
  Call,
  event,
  frame,
  time_of,
  unless,
  refusal_of,
  moment_of,
  verdict_of,
  verdict,
  clock_moved,
  Outcome,
  outcome_by,
  step_of,
  said,
  said_step,
  StepGives,
}
use Rattle.monitor.specs.Event.{Moment, record_after}
use Rattle.monitor.specs.Core.{Left}
use Rattle.soundness.specs.Fit.{with_sound, fit_of}
use Rattle.row_list.proofs.VerdictLaws.{verdict-below}
use Rattle.soundness.proofs.SoundnessLaws.{sound_parts}

-- A refused call leaves the record and the store as they were.
pub gives-refused : (setup : Setup) (store : List ℕ) (found : Record) (call : Call) (fault : Refusal)
    → refusal_of setup store found call ≡ some (refused fault)
    → StepGives setup store found call (Err fault) found store
unfolding step_of
gives-refused setup store found call fault h = rw h

-- 1 to 3, 10, 11, 4 and 7.
fit_refused_by : (sound : Bool) (ready : CheckReply) (rest : Option Refused) (fault : Refused) → refused_by fault ≡ with_sound sound ready
    → (refusal_in ready or_else unless sound Unsound or_else rest) ≡ some fault
fit_refused_by sound (refused_by other) rest fault h = cc
fit_refused_by true (passed rows need) rest fault h = cc
fit_refused_by false (passed rows need) rest fault h = cc

pub fit_refused : (setup : Setup) (store : List ℕ) (found : Record) (call : Call) (fault : Refused) → refused_by fault ≡ fit_of setup store found
    → refusal_of setup store found call ≡ some fault
unfolding refusal_of fit_of
fit_refused setup store found call fault h =
    fit_refused_by (sound? setup.table store found) (ready_of setup (length store)) _ fault h

-- None of them: what is left to judge by.
pub record Fit (setup : Setup) (store : List ℕ) (found : Record) : Type 0 where
  pub ready : refusal_in (ready_of setup (length store)) ≡ none
  pub sound : sound? setup.table store found ≡ true

fit_parts : (sound : Bool) (ready : CheckReply) (rows need : ℕ) → passed rows need ≡ with_sound sound ready → (ready ≡ passed rows need) × (sound ≡ true)
fit_parts true (passed r n) rows need h = (sym h, refl)
fit_parts false (passed r n) rows need h = cc
fit_parts sound (refused_by fault) rows need h = cc

pub fit_gives : (setup : Setup) (store : List ℕ) (found : Record) (rows need : ℕ) → passed rows need ≡ fit_of setup store found → Fit setup store found
unfolding fit_of
fit_gives setup store found rows need h =
    let parts = fit_parts (sound? setup.table store found) (ready_of setup (length store)) rows need h in
    record { ready = rw parts.0; sound = parts.1 }

-- Then 6, then 5, then none.
module _ {setup : Setup} {store : List ℕ} {found : Record} (call : Call) (fit : Fit setup store found) where
  pub late : time_limit < time_of (clock_of found) call → refusal_of setup store found call ≡ some (refused Late)
  unfolding refusal_of
  late over = rw (fit.ready, fit.sound, lt-leb _ _ over)

  module _ (early : time_of (clock_of found) call ≤ time_limit) where
    pub earlier : time_of (clock_of found) call < clock_of found → refusal_of setup store found call ≡ some (refused Earlier)
    unfolding refusal_of
    earlier fallen = rw (fit.ready, fit.sound, le-leb _ _ early, lt-leb _ _ fallen)

    pub unrefused : clock_of found ≤ time_of (clock_of found) call → refusal_of setup store found call ≡ none
    unfolding refusal_of
    unrefused risen = rw (fit.ready, fit.sound, le-leb _ _ early, le-leb _ _ risen)

-- A frame is the event at its time; where the clock is over the limit the record is not sound, and the event at any time is refused alike.
frame_is_event : (setup : Setup) (store : List ℕ) (found : Record) (counter mask : ℕ)
    → step_of setup store found (frame counter mask) ≡ step_of setup store found (event (frame_time (clock_of found) counter) mask)
unfolding step_of refusal_of
frame_is_event setup store found counter mask = refl

over_unsound : (table store : List ℕ) (found : Record) → time_limit < clock_of found → sound? table store found ≡ false
over_unsound table store found over = go (sound? table store found) refl
  where
    go : (answer : Bool) → sound? table store found ≡ answer → answer ≡ false
    go true h = absurd (omega (arith, (sound_parts table store found h).times))
    go false h = refl

refused_alike : (setup : Setup) (store : List ℕ) (found : Record) (m other : Moment) (first : Option Refused) (fault : Refused)
    → outcome_by setup store found m (first or_else some fault) ≡ outcome_by setup store found other (first or_else some fault)
refused_alike setup store found m other none fault = refl
refused_alike setup store found m other (some earlier) fault = refl

pub frame_at : (setup : Setup) (store : List ℕ) (found : Record) (counter mask : ℕ)
    → step_of setup store found (frame counter mask)
    ≡ step_of setup store found (event (time_shown (clock_of found) counter) mask)
unfolding step_of refusal_of
frame_at setup store found counter mask = go (leb (clock_of found) time_limit) refl
  where
    go : (timely : Bool) → leb (clock_of found) time_limit ≡ timely
        → step_of setup store found (frame counter mask) ≡ step_of setup store found (event (cond timely (frame_time (clock_of found) counter) 0) mask)
    go true h = frame_is_event setup store found counter mask
    go false h =
        rw (over_unsound setup.table store found (leb-false _ _ h))
        (refused_alike setup store found _ _ (refusal_in (ready_of setup (length store))) (refused Unsound))

-- An accepted heartbeat moves the clock; an accepted event's verdict has the truths of the listed rows.
module _
    (setup : Setup)
    (store : List ℕ)
    (found : Record)
    (time mask : ℕ)
    {kept : Record}
    {after : List ℕ}
    (accepted : refusal_of setup store found (event time mask) ≡ none)
    (left : Left (moment_of setup store found (event time mask)) kept after)
  where
    pub gives-moved : heartbeat? mask ≡ true → StepGives setup store found (event time mask) (Ok Accepted.ClockMoved) kept after
    unfolding step_of
    gives-moved beat = rw (left.left_is, left.store_is, accepted, beat)

    pub gives-verdict : heartbeat? mask ≡ false
        → StepGives setup store found (event time mask) (Ok (Accepted.Verdict (verdict_number kept.truths setup.list))) kept after
    unfolding step_of
    gives-verdict no-beat = rw (left.left_is, left.store_is, accepted, no-beat)

-- No call changes the row count, so the record that has these parts is the outcome's.
rows_stay : (setup : Setup) (store : List ℕ) (found : Record) (call : Call) → found.rows ≡ (step_of setup store found call).left.rows
unfolding step_of record_after
rows_stay setup store found call = go (refusal_of setup store found call)
  where
    go : (o : Option Refused) → found.rows ≡ (outcome_by setup store found (moment_of setup store found call) o).left.rows
    go none = refl
    go (some fault) = refl

put_together : (o : Outcome) (answer : Result Accepted Refusal) (left : Record) (rows : ℕ) (after : List ℕ)
    → said answer ≡ o.reply
    → record left { rows = o.left.rows } ≡ o.left
    → after ≡ o.store
    → rows ≡ o.left.rows
    → said_step answer (record left { rows = rows }) after ≡ o
put_together o answer left rows after replied parts store_is rows_are = rw (replied, rows_are, parts, store_is)

pub step_given : (setup : Setup) (store : List ℕ) (found : Record) (call : Call) (answer : Result Accepted Refusal) (left : Record) (after : List ℕ)
    → said answer ≡ (step_of setup store found call).reply
    → record left { rows = (step_of setup store found call).left.rows } ≡ (step_of setup store found call).left
    → after ≡ (step_of setup store found call).store
    → StepGives setup store found call answer (record left { rows = found.rows }) after
step_given setup store found call answer left after replied parts store_is =
    put_together (step_of setup store found call) answer left found.rows after replied parts store_is (rows_stay setup store found call)

-- The verdict of a call fits sixteen bits.
accepted_fits : (number made : ℕ) (beat : Bool) → made < 2 ^ list_limit → cond beat clock_moved (verdict made) ≡ verdict number → number < 2 ^ list_limit
accepted_fits number made true below said = cc
accepted_fits number made false below said =
    let same : made ≡ number = cc in
    rw same at below

pub verdict-fits : (setup : Setup) (store : List ℕ) (found : Record) (call : Call) (number : ℕ)
    → (step_of setup store found call).reply ≡ verdict number
    → number < 2 ^ list_limit
unfolding step_of
verdict-fits setup store found call number said = go (refusal_of setup store found call) said
  where
    m : Moment
    m = moment_of setup store found call

    go : (o : Option Refused) → (outcome_by setup store found m o).reply ≡ verdict number → number < 2 ^ list_limit
    go none said =
        accepted_fits number (verdict_of setup (record_after m).truths) (heartbeat? m.mask) (verdict-below (record_after m).truths setup.list) said
    go (some fault) said = cc
