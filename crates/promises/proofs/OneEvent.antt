-- One event, and one heartbeat, from any sound record, as sets. The spans found are sound, so they rise and leave room at their end, and the laws of an
-- update give its members; the truths of the lower rows, which it goes by, are those that the call leaves.
use mathlib.Core.Bool.{Bool, true, false, cond, not}
use mathlib.Core.List.{List}
use mathlib.Core.Logic.{◌↔◌}
use mathlib.Core.Option.{none}
use mathlib.Core.Path.{◌≡◌, refl, sym, ap, subst, ◌∙◌}
use Prim.Native.Nat.{ℕ, ◌+◌, ◌≤◌, ◌<◌}
use native.Mathlib.Omega.{arith}
use lib.Dec.{T}
use lib.ListN.{length}
use Rattle.meaning.specs.Interval.{end_of, ◌≤End◌, ◌+End◌}
use Rattle.meaning.specs.Heartbeat.{heartbeat?}
use Rattle.meaning.specs.Spans.{Span, In, Rising, clip}
use Rattle.meaning.proofs.SpansLaws.{clip_in_lem, clip-rising, Under}
use Rattle.meaning.proofs.SoundLaws.{sound-rising}
use Rattle.meaning.proofs.SoundKept.{update-rises}
use Rattle.meaning.proofs.Tells.{Tells, tells_not}
use Rattle.kinds.specs.Kinds.{stretch}
use Rattle.kinds.specs.declared.stretch.Stretch.{Stretch}
use Rattle.rules.specs.Rows.{rows_of, numbers_at, rule_of, kept_by, feeder, taken, fed_by}
use Rattle.rules.specs.Stretches.{need_of}
use Rattle.rules.specs.declared.numbers.Numbers.{Numbers}
use Rattle.rules.proofs.RowFitsLaws.{Names}
use Rattle.rules.proofs.RowFormulaLaws.{kept_same}
use Rattle.rules.proofs.PassedLaws.{InRange, range_order, Passed, passed_gives}
use Rattle.spans.proofs.CoverLaws.{covered-told}
use Rattle.monitor.proofs.RisingLaws.{truth-told}
use Rattle.soundness.specs.declared.record.Record.{Record}
use Rattle.row_list.specs.Truths.{truth_at}
use Rattle.soundness.specs.Record.{spans_found, clock_of, event_time}
use Rattle.monitor.proofs.EventLaws.{spans_clipped_lem, spans-judged}
use Rattle.monitor.specs.Event.{Moment, spans_after, truth_of, truths_after, spans_judged, spans_now, record_after, store_after}
use Rattle.soundness.specs.Setup.{Setup}
use Rattle.monitor.specs.Step.{Call, time_of, refusal_of, moment_of, verdict_of, verdict, clock_moved, accepted_reply, step_of}
use Rattle.promises.specs.Conditions.{RecordRight}
use Rattle.promises.specs.SoundIsKept.{Sized}
use Rattle.promises.specs.Spans.{InOrOut}
use Rattle.promises.specs.OneEvent.{LaysOut, BelongsAfter, OneEvent, OneEventFromAny, OneHeartbeat, OnlyClockMoved, HeartbeatFromAny}
use Rattle.promises.proofs.TableRefusals.{TableRoom, table-passes, room_of}
use Rattle.promises.proofs.StretchTold.{in_range_of}
use Rattle.promises.proofs.RowsAfter.{row_laid}
use Rattle.promises.proofs.SoundAfter.{room_after, found-laid, found-is, found-sound}
use Rattle.promises.proofs.SoundIsKept.{accepted_passes}
use Rattle.promises.proofs.Refusing.{Accepted, accepted_of}
use Rattle.promises.proofs.UpdateLaws.{update_in_lem, clipped_under}

-- What is taken of a test tells inside or outside, where the test tells inside.
test_in_or_out : (inside : Bool) {test : Bool} {Inside : Type 0} → Tells test Inside → T (taken not inside test) ↔ InOrOut inside Inside
test_in_or_out true told = (told.sound, told.complete)
test_in_or_out false told = ((tells_not told).sound, (tells_not told).complete)

-- By what is answered it was an event, or a heartbeat.
module _ (setup : Setup) (m : Moment) where
  verdict-event : (number : ℕ) → accepted_reply setup m ≡ verdict number → heartbeat? m.mask ≡ false
  verdict-event number said = go (heartbeat? m.mask) said
    where
      go : (beat : Bool) → cond beat clock_moved (verdict (verdict_of setup (record_after m).truths)) ≡ verdict number → beat ≡ false
      go true e = let clash : ◌≡◌ {A = ℕ} 0 1 = cc in absurd (omega arith)
      go false e = refl

  moved-heartbeat : accepted_reply setup m ≡ clock_moved → heartbeat? m.mask ≡ true
  moved-heartbeat said = go (heartbeat? m.mask) said
    where
      go : (beat : Bool) → cond beat clock_moved (verdict (verdict_of setup (record_after m).truths)) ≡ clock_moved → beat ≡ true
      go true e = refl
      go false e = let clash : ◌≡◌ {A = ℕ} 0 1 = cc in absurd (omega arith)

-- The spans found are laid out, and rise from the clock.
module _
    (m : Moment)
    (ready : TableRoom m.table (length m.store))
    (right : RecordRight m.table m.store m.found)
    (risen : clock_of m.found ≤ m.time)
    (row : ℕ)
    (lower : row < rows_of m.table)
  where
    spans-laid : LaysOut m.table row m.store m.found (spans_found m.table m.store m.found row)
    spans-laid = rw (found-is m ready right risen row lower) (found-laid m ready right risen row lower).laid

    found-rising : Rising (clock_of m.found) (spans_found m.table m.store m.found row)
    found-rising = sound-rising (clock_of m.found) _ _ _ _ (found-sound m ready right risen row lower)

module _
    (setup : Setup)
    (store : List ℕ)
    (found : Record)
    (c : Call)
    (number : ℕ)
    (row : ℕ)
    (columns : Stretch)
    (sized : Sized found)
    (judged : (step_of setup store found c).reply ≡ verdict number)
    (lower : row < rows_of setup.table)
    (since : rule_of (numbers_at setup.table row) ≡ stretch columns)
  where
    abbrev m : Moment
    m = moment_of setup store found c

    abbrev n : Numbers
    n = numbers_at setup.table row

    -- The spans found.
    abbrev S : List Span
    S = spans_found setup.table store found row

    unrefused : refusal_of setup store found c ≡ none
    unfolding step_of
    unrefused = accepted_passes setup store found m (refusal_of setup store found c) (rw judged tt)

    no-beat : heartbeat? m.mask ≡ false
    unfolding step_of
    no-beat = verdict-event setup m number (rw unrefused at judged)

    accepted : Accepted setup store found c
    accepted = accepted_of setup store found c unrefused

    passes : Passed setup.table (rows_of setup.table) (need_of setup.table)
    passes =
        passed_gives setup.table (rows_of setup.table) (need_of setup.table) (table-passes setup.table accepted.ready.right)

    names : Names row n (stretch columns)
    names = rw since at (passes.good row lower).names

    range : InRange n.a n.b
    range = in_range_of (accepted.ready.right.rows row lower).1

    order : n.a ≤End end_of n.b
    order = range_order n.a n.b range

    before-laid : LaysOut setup.table row store found S
    before-laid = spans-laid m (room_of accepted.ready) accepted.sound accepted.risen row lower

    found-rises : Rising (clock_of found) S
    found-rises = found-rising m (room_of accepted.ready) accepted.sound accepted.risen row lower

    event-past : event_time found ≤ m.time
    event-past = omega (arith, accepted.risen, accepted.sound.order)

    found-under : Under (m.time + n.a) (m.time +End end_of n.b) (clip m.time S)
    found-under =
        clipped_under (clock_of found) m.time (event_time found) n.a (end_of n.b) S order accepted.risen event-past
        (found-sound m (room_of accepted.ready) accepted.sound accepted.risen row lower)

    has-entry : (r : ℕ) → r < rows_of setup.table → r < length found.truths
    has-entry r known = omega (arith, accepted.ready.right.lengths.most, sized.truths)

    -- The truth of a lower row is left as it was when this row was judged.
    truth-stays : (x : ℕ) → x < row → truth_at (truths_after m (rows_of setup.table)) x ≡ truth_at (truths_after m row) x
    truth-stays x below =
        truth-told m (rows_of setup.table) x (omega arith) (has-entry x (omega arith))
        ∙ sym (truth-told m row x below (has-entry x (omega arith)))

    -- Whether the spans are kept, and whether the row is fed: by the truths when it was judged, which are those that the call leaves.
    abbrev keeps : Bool
    keeps = kept_by true (truth_at (truths_after m row)) n columns.keep

    abbrev feeds : Bool
    feeds = fed_by not (truth_at (truths_after m row)) n columns

    keeps-stay : kept_by true (truth_at (truths_after m (rows_of setup.table))) n columns.keep ≡ keeps
    keeps-stay = kept_same true _ _ row n truth-stays columns.keep names.0

    feeds-stay : fed_by not (truth_at (truths_after m (rows_of setup.table))) n columns ≡ feeds
    feeds-stay = ap (taken not columns.when) (truth-stays (feeder columns.feed n) names.1)

    now-rising : Rising m.time (spans_judged m row)
    unfolding spans_after
    now-rising =
        rw since
        (update-rises keeps feeds (clock_of found) m.time (event_time found) n.a _ (end_of n.b) S order accepted.risen
        event-past (found-sound m (room_of accepted.ready) accepted.sound accepted.risen row lower))

    now-exact : (u : ℕ) → In u (spans_judged m row) ↔ BelongsAfter setup.table row columns (record_after m) m.time S u
    unfolding spans_after record_after
    now-exact u =
        rw (since, no-beat, keeps-stay, feeds-stay)
        (update_in_lem (clock_of found) m.time n.a (end_of n.b) S found-rises found-under keeps feeds u)

    now-true : T (truth_at (record_after m).truths row) ↔ InOrOut columns.inside (In m.time (spans_judged m row))
    unfolding record_after truth_of
    now-true =
        rw (no-beat, truth-told m (rows_of setup.table) row lower (has-entry row lower), since)
        (test_in_or_out columns.inside (covered-told m.time (spans_judged m row)))

    now-is : spans_now m row ≡ spans_judged m row
    now-is = spans-judged m row no-beat

    now-laid : LaysOut setup.table row (store_after m) (record_after m) (spans_judged m row)
    now-laid =
        subst (LaysOut setup.table row (store_after m) (record_after m)) now-is
        (row_laid m row lower (omega (arith, accepted.ready.right.lengths.most, sized.counts))
        (omega (arith, accepted.ready.right.lengths.most, sized.firsts))
        (room_after m (room_of accepted.ready) accepted.sound accepted.early accepted.risen))

    one-event : OneEvent setup store found c row columns
    unfolding step_of
    one-event =
        record {
          before = before-laid;
          spans = spans_judged m row;
          rising = now-rising;
          exact = rw unrefused now-exact;
          true_in = rw unrefused now-true;
          laid = rw unrefused now-laid;
        }

pub one_event_from_any : OneEventFromAny
one_event_from_any = one-event

-- A heartbeat.
module _ (setup : Setup) (store : List ℕ) (found : Record) (c : Call) (moved : (step_of setup store found c).reply ≡ clock_moved) where
  abbrev met : Moment
  met = moment_of setup store found c

  moved-unrefused : refusal_of setup store found c ≡ none
  unfolding step_of
  moved-unrefused = accepted_passes setup store found met (refusal_of setup store found c) (rw moved tt)

  beat : heartbeat? met.mask ≡ true
  unfolding step_of
  beat = moved-heartbeat setup met (rw moved-unrefused at moved)

  moved_accepted : Accepted setup store found c
  moved_accepted = accepted_of setup store found c moved-unrefused

  only-clock : OnlyClockMoved found (step_of setup store found c).left (time_of (clock_of found) c)
  unfolding step_of record_after
  only-clock =
      record {
        clock = rw moved-unrefused;
        event = rw (moved-unrefused, beat);
        seen = rw (moved-unrefused, beat);
        rows = rw moved-unrefused;
        truths = rw (moved-unrefused, beat);
      }

  module _ (row : ℕ) (sized : Sized found) (lower : row < rows_of setup.table) where
    abbrev rest : List Span
    rest = clip met.time (spans_found setup.table store found row)

    rest-is : spans_now met row ≡ rest
    rest-is = spans_clipped_lem met row beat

    rest-laid : LaysOut setup.table row (store_after met) (record_after met) rest
    rest-laid =
        subst (LaysOut setup.table row (store_after met) (record_after met)) rest-is
        (row_laid met row lower (omega (arith, moved_accepted.ready.right.lengths.most, sized.counts))
        (omega (arith, moved_accepted.ready.right.lengths.most, sized.firsts))
        (room_after met (room_of moved_accepted.ready) moved_accepted.sound moved_accepted.early moved_accepted.risen))

    one-heartbeat : OneHeartbeat setup store found c row
    unfolding step_of
    one-heartbeat =
        let ready = room_of moved_accepted.ready in
        let right = moved_accepted.sound in
        let rises = found-rising met ready right moved_accepted.risen row lower in
        record {
          before = spans-laid met ready right moved_accepted.risen row lower;
          spans = rest;
          rising = clip-rising (clock_of found) met.time _ rises;
          exact = λ u. clip_in_lem (clock_of found) met.time _ u rises;
          laid = rw moved-unrefused rest-laid;
        }

pub heartbeat_from_any : HeartbeatFromAny
heartbeat_from_any =
    record { spans = λ setup store found c row sized moved lower. one-heartbeat setup store found c moved row sized lower; others = only-clock }
