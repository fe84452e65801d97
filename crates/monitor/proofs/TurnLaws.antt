-- The rows of a call that nothing refuses, one after the other: the next row can be clipped or judged, and that is one row more of the record and the
-- store; after the last, they are the record and the store after the call.
use mathlib.Core.Bool.{true, false}
use mathlib.Core.List.{List}
use mathlib.Core.Path.{◌≡◌, refl, sym, subst, ◌∙◌}
use Prim.Native.Nat.{ℕ, ◌+◌, ◌-◌, ◌^◌, ◌≤◌, ◌<◌}
use native.Mathlib.Numerals.{add-one}
use native.Mathlib.Omega.{arith}
use lib.ListN.{length, take, drop, set}
use borrow.Rule.Slice.PartMut.{put_mid}
use Rattle.meaning.specs.Heartbeat.{heartbeat?}
use Rattle.rules.specs.Limits.{row_limit}
use Rattle.rules.specs.Rows.{rows_of, numbers_at}
use Rattle.rules.specs.Stretches.{spans_of, offset, width}
use Rattle.rules.specs.declared.numbers.Numbers.{Numbers}
use Rattle.rules.proofs.PassedLaws.{width-most}
use Rattle.spans.specs.declared.stretch.Held.{Held}
use Rattle.spans.specs.Layout.{ring_of}
use Rattle.spans.specs.Stretch.{ClippedTo}
use Rattle.spans.proofs.UpdateLaws.{first_small}
use Rattle.soundness.specs.declared.record.Record.{Record}
use Rattle.soundness.specs.Record.{held_at, stretch_at}
use Rattle.soundness.specs.Setup.{Setup}
use Rattle.soundness.proofs.SoundnessLaws.{sound_parts}
use Rattle.monitor.specs.declared.event.Judgement.{Judgement}
use Rattle.row_list.specs.Truths.{byte_of}
use Rattle.monitor.specs.Event.{
  Moment,
  arrival_of,
  spans_after,
  first_after,
  truth_of,
  truths_after,
  ring_judged,
  ring_clipped,
  entries_with,
  words_done,
  store_with,
  record_after,
}
use Rattle.monitor.specs.Step.{event, moment_of}
use Rattle.monitor.specs.Core.{Unrefused, Left, RowReady, RowLeft, RowJudged}
use Rattle.monitor.proofs.EventLaws.{length_stretch, RingFits, Room, Clipped, Judged, held-found, part-found, part-inside, rows-turn}
use Rattle.monitor.proofs.ClippingLaws.{RowsLaid, clipped_fits, count_is, first_is, spanned, clip-count, clip-first}
use Rattle.monitor.proofs.AcceptedLaws.{Accepted, accepted, row-rises, row_fits, rows-laid}

module _ {setup : Setup} {store : List ℕ} {found : Record} {time : ℕ} (unrefused : Unrefused setup store found time) where
  met : Accepted setup.table store found time
  met = accepted setup store found (event time 0) (unrefused.passes 0)

  counted : found.rows ≡ rows_of setup.table
  counted = (sound_parts setup.table store found met.sound).counted

  laid : RowsLaid setup.table store found found.rows
  laid = subst (λ (n : ℕ). RowsLaid setup.table store found n) (sym counted) (rows-laid setup.table store found time met)

  pub few-rows : found.rows ≤ row_limit
  few-rows = laid.few

  -- A heartbeat.
  clips-fit : Room setup.table (ring_clipped setup.table store found.counts found.firsts time) found.rows
  clips-fit row lower = clipped_fits setup.table store found found.rows time laid lower

  pub clipped-none : Clipped setup.table store found time 0 0 found store
  unfolding offset entries_with words_done store_with
  clipped-none = record { place = refl; left_is = refl; store_is = refl }

  module _
      {n from words : ℕ}
      {numbers : Numbers}
      {kept : Record}
      {now : List ℕ}
      (done : Clipped setup.table store found time n from kept now)
      (lower : n < found.rows)
      (read : numbers ≡ numbers_at setup.table n)
      (size : words ≡ width numbers)
    where
      pub clip-inside : from + words ≤ length now
      clip-inside = part-inside setup.table store found (λ row. found.truths) _ found.rows laid.inside clips-fit lower done read size

      -- At whatever time it is clipped, its spans stay counted by numbers of the record.
      module _ (at : ℕ) {after : List ℕ} {left : Held}
          (given : ClippedTo (take (from + words - from) (drop from now)) (held_at kept n) after left at) where
        clipped : ClippedTo (stretch_at setup.table store n) (held_at found n) after left at
        clipped =
            rw (
              part-found setup.table store found (λ row. found.truths) _ found.rows laid.inside clips-fit lower done read size,
              held-found setup.table store found (λ row. found.truths) _ found.rows laid.inside clips-fit lower done read size,
            ) at given

        pub count-kept : left.count < 2 ^ 32
        count-kept = clip-count setup.table store found found.rows at laid lower clipped

        pub first-kept : left.first < 2 ^ 32
        first-kept = clip-first setup.table store found found.rows at laid lower clipped

      module _ {after : List ℕ} {left : Held}
          (given : ClippedTo (take (from + words - from) (drop from now)) (held_at kept n) after left time) where
        pub clip-turn : Clipped setup.table store found time (n + 1) (from + words)
            (record kept { counts = set kept.counts n left.count; firsts = set kept.firsts n left.first })
            (put_mid from (from + words - from) now after)
        clip-turn =
            rows-turn setup.table store found (λ row. found.truths) _ found.rows laid.inside clips-fit lower done read size (rw done.left_is refl)
            (count_is setup.table store found found.rows time laid lower (clipped time given))
            (first_is setup.table store found found.rows time laid lower (clipped time given))
            (spanned setup.table store found found.rows time laid lower (clipped time given) ∙ rw read)

  pub clipped-all : {mask n from : ℕ} {kept : Record} {now : List ℕ}
      → heartbeat? mask ≡ true
      → Clipped setup.table store found time n from kept now
      → n ≡ found.rows
      → Left (moment_of setup store found (event time mask)) (record kept { clock = time }) now
  unfolding record_after
  clipped-all beat done all = record { left_is = rw (done.left_is, beat, all, counted); store_is = rw (done.store_is, beat, all, counted) }

  -- An event.
  module _ (mask : ℕ) where
    abbrev m : Moment
    m = moment_of setup store found (event time mask)

    within : (n : ℕ) → n < found.rows → n < rows_of setup.table
    within n lower = omega (arith, counted)

    fits : (n : ℕ) → n < found.rows → (truths : List ℕ)
        → RingFits (numbers_at setup.table n) (record { first = first_after m n truths; spans = spans_after m n truths })
    fits n lower truths = row_fits m met n (within n lower) truths

    judged-fit : Room setup.table (ring_judged m) found.rows
    judged-fit n lower = fits n lower (truths_after m n)

    few : (n : ℕ) → n < found.rows → spans_of (numbers_at setup.table n) < 2 ^ 32
    few n lower = omega (arith, width-most (numbers_at setup.table n) (met.ready.passes.good n (within n lower)).limits)

    -- A row as it was found, from the truths of the lower ones.
    ready : (n : ℕ) → n < found.rows → (truths : List ℕ)
        → RowReady (stretch_at setup.table store n) (numbers_at setup.table n) (held_at found n) time truths
    unfolding spans_after
    ready n lower truths =
        record {
          early = met.early;
          size = length_stretch setup.table store n (laid.inside n lower);
          laid = laid.laid n lower;
          rises = row-rises m met n (within n lower) truths;
          room = (fits n lower truths).few;
        }

    pub judged-none : Judged m 0 0 found store
    unfolding offset truths_after entries_with words_done store_with
    judged-none = record { place = refl; left_is = refl; store_is = refl }

    module _
        {n from words : ℕ}
        {numbers : Numbers}
        {kept : Record}
        {now : List ℕ}
        (done : Judged m n from kept now)
        (lower : n < found.rows)
        (read : numbers ≡ numbers_at setup.table n)
        (size : words ≡ width numbers)
      where
        pub row-inside : from + words ≤ length now
        row-inside = part-inside setup.table store found (truths_after m) (ring_judged m) found.rows laid.inside judged-fit lower done read size

        part : take (from + words - from) (drop from now) ≡ stretch_at setup.table store n
        part = part-found setup.table store found (truths_after m) (ring_judged m) found.rows laid.inside judged-fit lower done read size

        held : held_at kept n ≡ held_at found n
        held = held-found setup.table store found (truths_after m) (ring_judged m) found.rows laid.inside judged-fit lower done read size

        truths : kept.truths ≡ truths_after m n
        truths = rw done.left_is refl

        pub row-ready : RowReady (take (from + words - from) (drop from now)) numbers (held_at kept n) time kept.truths
        row-ready = rw (part, held, read) (ready n lower kept.truths)

        module _ {after : List ℕ} {left : Held}
            (given : RowLeft (take (from + words - from) (drop from now)) numbers (held_at kept n) time kept.truths after left) where
          row : RowLeft (stretch_at setup.table store n) (numbers_at setup.table n) (held_at found n) time (truths_after m n) after left
          row = rw (part, held, read, truths) at given

          count-is : left.count ≡ length (spans_after m n (truths_after m n))
          unfolding spans_after
          count-is = row.count

          first-is : left.first ≡ first_after m n (truths_after m n)
          unfolding first_after
          first-is = row.first

          written : after ≡ ring_of (width (numbers_at setup.table n)) left.first (spans_after m n (truths_after m n))
          unfolding spans_after
          written = row.written

          -- Both are counted by a number of the record.
          pub row-count : left.count < 2 ^ 32
          row-count = omega (arith, count-is, (judged-fit n lower).few, few n lower)

          pub row-first : left.first < 2 ^ 32
          row-first = omega (arith, first-is, first_small (judged-fit n lower).placed (judged-fit n lower).few, few n lower)

        module _ {after : List ℕ} {judged : Judgement}
            (given : RowJudged (take (from + words - from) (drop from now)) numbers (held_at kept n) (arrival_of m) kept.truths after judged) where
          row-found : RowJudged (stretch_at setup.table store n) (numbers_at setup.table n) (held_at found n) (arrival_of m) (truths_after m n)
              after judged
          row-found = rw (part, held, read, truths) at given

          truth-is : judged.truth ≡ truth_of m n (truths_after m n)
          unfolding truth_of spans_after
          truth-is = row-found.truth

          pub row-turn : {byte : ℕ}
              → byte ≡ byte_of judged.truth
              → Judged m (n + 1) (from + words)
              (record kept { truths = set kept.truths n byte; counts = set kept.counts n judged.held.count; firsts = set kept.firsts n judged.held.first })
              (put_mid from (from + words - from) now after)
          unfolding truths_after
          row-turn told =
              rows-turn setup.table store found (truths_after m) (ring_judged m) found.rows laid.inside judged-fit lower done read size
              (rw (add-one, told, truth-is, truths)) (count-is given.left) (first-is given.left) (written given.left ∙ rw read)

    pub judged-all : {n from : ℕ} {kept : Record} {now : List ℕ}
        → heartbeat? mask ≡ false
        → Judged m n from kept now
        → n ≡ found.rows
        → Left m (record kept { seen = 1; clock = time; last = time }) now
    unfolding record_after
    judged-all no-beat done all = record { left_is = rw (done.left_is, no-beat, all, counted); store_is = rw (done.store_is, no-beat, all, counted) }
