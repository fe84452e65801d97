-- What a refusal leaves, as C sees it: "A refused call leaves every word of the store, every field of the record and every single number as it was, but
-- for the place in a text; a refused start leaves an all-zero record."
use mathlib.Core.Bool.{Bool, true, false, cond}
use mathlib.Core.List.{List}
use mathlib.Core.Option.{Option, none, some}
use mathlib.Core.Path.{◌≡◌, refl}
use Prim.Native.Nat.{ℕ, ◌<◌}
use native.Mathlib.Omega.{arith}
use lib.ListN.{length}
use Rattle.meaning.specs.Heartbeat.{heartbeat?}
use Rattle.refusals.specs.Refusals.{Refused}
use Rattle.times.specs.FrameTime.{TimeReply, at, not_at}
use Rattle.rules.specs.Table as Table
use Rattle.soundness.specs.declared.record.Record.{Record}
use Rattle.soundness.specs.Record.{nothing_seen}
use Rattle.soundness.specs.Ready.{ready_of}
use Rattle.monitor.specs.Start.{begin, start_of}
use Rattle.monitor.specs.Event.{record_after}
use Rattle.soundness.specs.Setup.{Setup}
use Rattle.monitor.specs.Step.{Call, mask_of, verdict, clock_moved, moment_of, verdict_of, outcome_by, refusal_of, step_of}
use Rattle.lines.specs.Read as Read
use Rattle.codes.specs.Code.{verdict_room, moved_code, code_of, number_told, IsRefusal}
use Rattle.board.specs.Left.{started_of, coded_of}
use Rattle.board.specs.Numbers.{checked_of, timed_of, line_by, line_left}
use Rattle.row_list.proofs.VerdictLaws.{verdict-below}
use Rattle.codes.proofs.CodeLaws.{verdict_tag, moved_tag}

-- What is accepted, a heartbeat or an event, tells no refusal.
not_refused : {A : Type 0} (beat : Bool) (number : ℕ) → number < verdict_room → IsRefusal (code_of (cond beat clock_moved (verdict number))) → A
not_refused true number fits told = let none : number_told moved_code ≡ 0 = moved_tag in absurd (omega arith)
not_refused false number fits told = let none : number_told (code_of (verdict number)) ≡ 0 = verdict_tag number fits in absurd (omega arith)

-- An event or a frame: the record and the store stay.
module _ (setup : Setup) (store : List ℕ) (found : Record) (call : Call) where
  stays : (fault : Option Refused) → let o = coded_of (outcome_by setup store found (moment_of setup store found call) fault) in
      IsRefusal o.code → (o.kept ≡ found) × (o.store ≡ store)
  stays (some fault) refused = (refl, refl)
  stays none refused =
      let truths : List ℕ = (record_after (moment_of setup store found call)).truths in
      not_refused (heartbeat? (mask_of call)) (verdict_of setup truths) (verdict-below truths setup.list) refused

  pub refused_call_stays : let o = coded_of (step_of setup store found call) in IsRefusal o.code → (o.kept ≡ found) × (o.store ≡ store)
  unfolding step_of
  refused_call_stays = stays (refusal_of setup store found call)

-- A start: the record is all zero, the store stays.
begins : (store : List ℕ) (ready : Table.CheckReply) → let o = started_of (begin store ready) in
    IsRefusal o.code → (o.kept ≡ nothing_seen 0) × (o.store ≡ store)
begins store (Table.passed rows need) refused = absurd (omega arith)
begins store (Table.refused_by fault) refused = (refl, refl)

pub refused_start_zero : (setup : Setup) (store : List ℕ) → let o = started_of (start_of setup store) in
    IsRefusal o.code → (o.kept ≡ nothing_seen 0) × (o.store ≡ store)
unfolding start_of
refused_start_zero setup store = begins store (ready_of setup (length store))

-- A table check: row count and need stay.
pub refused_check_stays : (said : Table.CheckReply) (rows need : ℕ) → let o = checked_of said rows need in
    IsRefusal o.code → (o.rows ≡ rows) × (o.need ≡ need)
refused_check_stays (Table.passed counted words) rows need refused = absurd (omega arith)
refused_check_stays (Table.refused_by fault) rows need refused = (refl, refl)

-- The time of a frame: the time stays.
pub refused_time_stays : (reply : TimeReply) (time : ℕ) → let o = timed_of reply time in IsRefusal o.code → o.time ≡ time
refused_time_stays (at shown) time refused = absurd (omega arith)
refused_time_stays (not_at fault) time refused = refl

-- A line: where no frame was read, counter and mask stay. The place is the next one, whatever was read.
without_frame : (said : Read.LineReply) (next counter mask : ℕ) → let o = line_by said next counter mask in
    (o.code ≡ 1 → ⊥) → (o.counter ≡ counter) × (o.mask ≡ mask)
without_frame Read.at_end next counter mask no-frame = (refl, refl)
without_frame (Read.good_line given) next counter mask no-frame = absurd (no-frame refl)
without_frame (Read.bad_line fault) next counter mask no-frame = (refl, refl)

pub no_frame_stays : (read : Read.Read) (counter mask : ℕ) → let o = line_left read counter mask in
    (o.code ≡ 1 → ⊥) → (o.counter ≡ counter) × (o.mask ≡ mask)
no_frame_stays read = without_frame read.said read.next

next_place_by : (said : Read.LineReply) (next counter mask : ℕ) → (line_by said next counter mask).place ≡ next
next_place_by Read.at_end next counter mask = refl
next_place_by (Read.good_line given) next counter mask = refl
next_place_by (Read.bad_line fault) next counter mask = refl

pub next_place_lem : (read : Read.Read) (counter mask : ℕ) → (line_left read counter mask).place ≡ read.next
next_place_lem read = next_place_by read.said read.next
