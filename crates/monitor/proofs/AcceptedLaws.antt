-- What is known where a call is not refused: the table passes, the store has room, the record is sound and the time is in order; and so each
-- row's spans are laid out in its stretch, and those after the call rise from its time and have room there, whatever the truths of the lower rows.
use mathlib.Core.Bool.{Bool, true, false, cond, not}
use mathlib.Core.List.{List}
use mathlib.Core.Option.{Option, none}
use mathlib.Core.Path.{◌≡◌, refl, sym, subst}
use Prim.Native.Nat.{ℕ, ◌+◌, ◌≤◌, ◌<◌, max}
use native.Mathlib.Omega.{arith}
use lib.Dec.{T, leb}
use lib.ListN.{length, get_or}
use borrow.Author.Tests.{leb-true}
use Rattle.meaning.specs.Interval.{end_of, ◌+End◌}
use Rattle.meaning.specs.Heartbeat.{heartbeat?}
use Rattle.meaning.specs.Spans.{Rising, reached_from, update}
use Rattle.meaning.specs.Sound.{length_of}
use Rattle.meaning.specs.Figure.{figure}
use Rattle.kinds.specs.Kinds.{Rule, plain, stretch}
use Rattle.kinds.specs.declared.stretch.Stretch.{Stretch}
use Rattle.rules.specs.Rows.{rows_of, numbers_at, rule_of, kept_by, fed_by}
use Rattle.rules.specs.Stretches.{spans_said, spans_of, width, offset}
use Rattle.refusals.specs.Refusals.{Refused, ◌or_else◌}
use Rattle.rules.specs.declared.numbers.Numbers.{Numbers}
use Rattle.refusals.specs.declared.refusal.Refusal.{Refusal}
use Rattle.refusals.specs.declared.refusal.Refusal.TheVariants.{Earlier, Late, Unsound}
use Rattle.meaning.proofs.Truths.{and_right}
use Rattle.rules.proofs.TableLaws.{or_none}
use Rattle.rules.proofs.PassedLaws.{InRange, range_order, limit-fits, width-most}
use Rattle.rules.proofs.StretchesLaws.{stretch-before}
use Rattle.spans.specs.Layout.{places_of, Packed}
use Rattle.spans.specs.Stretch.{Inside}
use Rattle.spans.proofs.RoundLaws.{places_double}
use Rattle.spans.proofs.LayoutLaws.{Storable, laid-inside}
use Rattle.spans.proofs.UpdateLaws.{kept_grows, first_fits}
use Rattle.sound_spans.proofs.SoundTold.{SoundStretch, stretch-told}
use Rattle.sound_spans.proofs.StretchKept.{UpdateLeaves, sound-packed, sound-ready}
use Rattle.soundness.specs.declared.record.Record.{Record}
use Rattle.times.specs.Times.{time_limit}
use Rattle.row_list.specs.Truths.{truth_at}
use Rattle.soundness.specs.Record.{was_seen, clock_of, event_time, held_at, stretch_at, spans_found}
use Rattle.soundness.specs.Soundness.{sound_entry?, sound_limits?, sound_row?, sound?}
use Rattle.soundness.specs.Ready.{ready_of, refusal_in}
use Rattle.monitor.specs.Event.{Moment, spans_by, spans_left, spans_after, first_after, truths_after, ring_judged, ring_clipped, ring_now}
use Rattle.soundness.specs.Setup.{Setup}
use Rattle.monitor.specs.Step.{Call, time_of, unless, refusal_of}
use Rattle.soundness.proofs.ReadyLaws.{Ready, ready_none}
use Rattle.monitor.proofs.EventLaws.{length_stretch, RingFits, Room}
use Rattle.monitor.proofs.ClippingLaws.{RowsLaid, clipped_fits}
use Rattle.spans.proofs.ReachedLaws.{reach_storable}
use Rattle.soundness.proofs.SoundnessLaws.{every-at, sound_parts}

-- The conditions of a call, each met.
pub record Accepted (table store : List ℕ) (found : Record) (time : ℕ) : Type 0 where
  pub ready : Ready table (length store) (rows_of table)
  pub sound : sound? table store found ≡ true
  pub early : time ≤ time_limit
  pub risen : clock_of found ≤ time

unless-none : (test : Bool) (refusal : Refusal) → unless test refusal ≡ none → test ≡ true
unless-none true refusal h = refl
unless-none false refusal h = cc

pub accepted : (setup : Setup) (store : List ℕ) (found : Record) (call : Call) → refusal_of setup store found call ≡ none
    → Accepted setup.table store found (time_of (clock_of found) call)
unfolding refusal_of
accepted setup store found call h =
    let sound : Option Refused = unless (sound? setup.table store found) Unsound in
    let early : Option Refused = unless (leb (time_of (clock_of found) call) time_limit) Late in
    let risen : Option Refused = unless (leb (clock_of found) (time_of (clock_of found) call)) Earlier in
    let first = or_none (refusal_in (ready_of setup (length store))) (sound or_else early or_else risen) h in
    let second = or_none sound (early or_else risen) first.1 in
    let third = or_none early risen second.1 in
    record {
      ready = (ready_none setup (length store) first.0).table;
      sound = unless-none (sound? setup.table store found) Unsound second.0;
      early = leb-true _ _ (unless-none (leb (time_of (clock_of found) call) time_limit) Late third.0);
      risen = leb-true _ _ (unless-none (leb (clock_of found) (time_of (clock_of found) call)) Earlier third.1);
    }

module _ (table store : List ℕ) (found : Record) (time : ℕ) (met : Accepted table store found time) where
  module _ (row : ℕ) (lower : row < rows_of table) where
    abbrev numbers : Numbers
    numbers = numbers_at table row

    range : InRange numbers.a numbers.b
    range = (met.ready.passes.good row lower).limits

    pub row_inside : offset table row + width numbers ≤ length store
    row_inside = omega (arith, stretch-before table row (rows_of table) lower, met.ready.room)

    times : (event_time found ≤ clock_of found) × (clock_of found ≤ time_limit)
    times = (sound_parts table store found met.sound).times

    storable : Storable (event_time found +End end_of numbers.b)
    storable =
        reach_storable (event_time found) numbers.b (omega (arith, times)) (limit-fits numbers.a numbers.b range)

    abbrev latest_first : ℕ
    latest_first = max (clock_of found) (event_time found + numbers.a)

    limits-sound : sound_limits? (stretch_at table store row) (held_at found row) (clock_of found) (event_time found) numbers ≡ true
    unfolding sound_row?
    limits-sound =
        and_right (sound_entry? (was_seen found) (get_or found.truths row 0) (get_or found.counts row 0) numbers)
        (sound_limits? (stretch_at table store row) (held_at found row) (clock_of found) (event_time found) numbers)
        (every-at (rows_of table) row (sound_row? table store found) lower (sound_parts table store found met.sound).rows)

    stretch-sound :
        SoundStretch (stretch_at table store row) (held_at found row) (clock_of found) latest_first (event_time found +End end_of numbers.b)
        (length_of numbers.a (end_of numbers.b))
    stretch-sound =
        (stretch-told (stretch_at table store row) (held_at found row) (clock_of found) latest_first (event_time found +End end_of numbers.b)
        (length_of numbers.a (end_of numbers.b)) storable
        ).sound (subst T (sym limits-sound) tt)

    pub row_laid : Packed (stretch_at table store row) (held_at found row)
    row_laid =
        sound-packed (clock_of found) time (event_time found) numbers.a latest_first (end_of numbers.b) (stretch_at table store row)
        (held_at found row) storable stretch-sound

    -- An update of the row at the time: what it leaves rises from there, and has room.
    update-ready : (keep feed : Bool)
        → UpdateLeaves time (figure numbers.a (end_of numbers.b))
        (update keep feed time (reached_from time numbers.a (end_of numbers.b)) (spans_found table store found row))
    update-ready keep feed =
        sound-ready (clock_of found) time (event_time found) numbers.a latest_first (end_of numbers.b) (stretch_at table store row)
        (held_at found row) storable stretch-sound keep feed (range_order numbers.a numbers.b range) met.risen (omega (arith, times, met.risen))

-- The spans of a row after an event rise from its time and have room, whatever the truths of the lower rows.
module _ (m : Moment) (met : Accepted m.table m.store m.found m.time) (row : ℕ) (lower : row < rows_of m.table)
    (truths : List ℕ) where
  abbrev N : Numbers
  N = numbers_at m.table row

  -- Of a row with a stretch.
  by_columns : (columns : Stretch)
      → UpdateLeaves m.time (figure N.a (end_of N.b))
      (spans_by m.time truths (spans_found m.table m.store m.found row) N (stretch columns))
  by_columns columns =
      update-ready m.table m.store m.found m.time met row lower (kept_by true (truth_at truths) N columns.keep)
      (fed_by not (truth_at truths) N columns)

  rises_by : (rule : Rule) → Rising m.time (spans_by m.time truths (spans_found m.table m.store m.found row) N rule)
  unfolding Rising
  rises_by (plain says) = tt
  rises_by (stretch columns) = (by_columns columns).rises

  pub row-rises : Rising m.time (spans_after m row truths)
  unfolding spans_after
  row-rises = rises_by (rule_of N)

  enough_by : (rule : Rule) → length (spans_by m.time truths (spans_found m.table m.store m.found row) N rule) ≤ spans_said rule N
  enough_by (plain says) = omega arith
  enough_by (stretch columns) = (by_columns columns).room

  row-enough : length (spans_after m row truths) ≤ spans_of N
  unfolding spans_after
  row-enough = enough_by (rule_of N)

  -- Its first place then is right for them.
  held-inside : Inside (stretch_at m.table m.store row) (held_at m.found row)
  held-inside = laid-inside (row_laid m.table m.store m.found m.time met row lower)

  places : places_of (length (stretch_at m.table m.store row)) ≡ spans_of N
  places =
      rw (
        length_stretch m.table m.store row (row_inside m.table m.store m.found m.time met row lower),
        places_double,
      )
      refl

  left_by_lem : (rule : Rule)
      → length (spans_left m.time truths (spans_found m.table m.store m.found row) N rule)
      ≤ length (spans_by m.time truths (spans_found m.table m.store m.found row) N rule)
  left_by_lem (plain says) = omega arith
  left_by_lem (stretch columns) =
      kept_grows (kept_by true (truth_at truths) N columns.keep) (fed_by not (truth_at truths) N columns) m.time
      (reached_from m.time N.a (end_of N.b)) (spans_found m.table m.store m.found row)

  pub row_fits : RingFits N (record { first = first_after m row truths; spans = spans_after m row truths })
  unfolding first_after spans_after
  row_fits =
      record {
        few = row-enough;
        placed =
            first_fits (spans_of N) (held_at m.found row) _ _ (omega (arith, held-inside.0, places)) (omega (arith, held-inside.1, places))
            (left_by_lem (rule_of N)) row-enough;
      }

-- The rows of the table can be clipped.
pub rows-laid : (table store : List ℕ) (found : Record) (time : ℕ) → Accepted table store found time → RowsLaid table store found (rows_of table)
rows-laid table store found time met =
    record {
      few = met.ready.passes.few-rows;
      inside = row_inside table store found time met;
      laid = row_laid table store found time met;
      counted = λ row lower.
          omega (arith, width-most (numbers_at table row) (met.ready.passes.good row lower).limits);
    }

-- So the spans of each row after the call have room, be it an event or a heartbeat.
pub now_enough : (m : Moment) → Accepted m.table m.store m.found m.time → Room m.table (ring_now m) (rows_of m.table)
now_enough m met = go (heartbeat? m.mask)
  where
    go : (heartbeat : Bool)
        → Room m.table (cond heartbeat (ring_clipped m.table m.store m.found.counts m.found.firsts m.time) (ring_judged m)) (rows_of m.table)
    go true row lower =
        clipped_fits m.table m.store m.found (rows_of m.table) m.time (rows-laid m.table m.store m.found m.time met) lower
    go false row lower = row_fits m met row lower (truths_after m row)
