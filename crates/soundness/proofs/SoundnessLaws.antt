-- Laws of the soundness of a record: a test of every row, by rows, what the code's tests of a row tell, and what a sound record gives.
use mathlib.Core.Bool.{Bool, true, false, ◌&&◌, ◌||◌, and-true}
use mathlib.Core.List.{List, [], ◌∷◌}
use mathlib.Core.Logic.{⊎_elim}
use mathlib.Core.Path.{◌≡◌, refl}
use Prim.Native.Nat.{ℕ, zero, suc, ◌+◌, ◌*◌, ◌-◌, ◌≤◌, ◌<◌, max}
use native.Mathlib.Nat.{eq-or-lt_of_le, le_of_suc-le-suc}
use native.Mathlib.Numerals.{add-one}
use native.Mathlib.Omega.{arith}
use lib.Dec.{leb, eqb}
use lib.ListN.{length, take, drop}
use lib.Seq.{drop-nil, take-nil}
use borrow.Author.Tests.{leb-true, eqb-true}
use Rattle.meaning.specs.Interval.{End, up_to, no_end, end_of, ◌+End◌}
use Rattle.meaning.specs.Sound.{length_of}
use Rattle.meaning.proofs.Truths.{and_false, and_left, and_right}
use Rattle.rules.specs.Limits.{row_limit}
use Rattle.rules.specs.Rows.{rows_of, numbers_at}
use Rattle.rules.specs.Stretches.{spans_of, width, offset}
use Rattle.rules.specs.declared.numbers.Numbers.{Numbers}
use Rattle.rules.proofs.StretchesLaws.{stretch-before}
use Rattle.spans.specs.declared.stretch.Held.{Held}
use Rattle.spans.specs.Layout.{places_of, spans_from, round_from, placed?, zeros?}
use Rattle.spans.proofs.ReachedLaws.{reached-early}
use Rattle.sound_spans.specs.StretchSound.{sound_from?, sound_endless?, sound_spans?, sound_stretch?}
use Rattle.times.specs.Times.{time_limit}
use Rattle.row_list.specs.Truths.{is_true}
use Rattle.soundness.specs.declared.record.Record.{Record}
use Rattle.soundness.specs.Record.{clock_of, event_time, stretch_at}
use Rattle.soundness.specs.Ready.{TableReady}
use Rattle.soundness.specs.Soundness.{every, truth_byte?, sound_entry?, sound_limits?, sound_row?, zero_past?, sound_times?, sound?}

-- One row that fails decides; one row more that passes.
pub every_not : (n r : ℕ) (test : ℕ → Bool) → r < n → test r ≡ false → every n test ≡ false
unfolding every
every_not zero r test lower h = absurd (omega arith)
every_not (suc n) r test lower h =
    ⊎_elim
    (λ e. rw (← e, h) (and_false (every r test)))
    (λ further. rw (every_not n r test further h))
    (eq-or-lt_of_le (le_of_suc-le-suc lower))

pub every_more : (r : ℕ) (test : ℕ → Bool) → every r test ≡ true → test r ≡ true → every (r + 1) test ≡ true
unfolding every
every_more r test all here = rw (add-one, all, here)

pub every-at : (n r : ℕ) (test : ℕ → Bool) → r < n → every n test ≡ true → test r ≡ true
unfolding every
every-at zero r test lower h = absurd (omega arith)
every-at (suc n) r test lower h =
    ⊎_elim
    (λ e. rw e (and_right (every n test) (test n) h))
    (λ further. every-at n r test further (and_left (every n test) (test n) h))
    (eq-or-lt_of_le (le_of_suc-le-suc lower))

pub every-all : (n : ℕ) (test : ℕ → Bool) → ((r : ℕ) → r < n → test r ≡ true) → every n test ≡ true
unfolding every
every-all zero test all = refl
every-all (suc n) test all = rw (every-all n test (λ r lower. all r (omega arith)), all n (omega arith))

-- The part of the store that is lent for a row is its stretch.
pub part_told : (table store : List ℕ) (row : ℕ) {numbers : Numbers} {from words : ℕ} → numbers ≡ numbers_at table row → from ≡ offset table row
    → words ≡ width numbers
    → take (from + words - from) (drop from store) ≡ stretch_at table store row
unfolding stretch_at
part_told table store row {numbers} {from} {words} read place size =
    let e : from + words - from ≡ words = omega arith in
    rw (e, size, read, place)

-- A sound entry's count is within the figure.
pub entry_within : (seen : Bool) (truth count : ℕ) (numbers : Numbers) → sound_entry? seen truth count numbers ≡ true → count ≤ spans_of numbers
entry_within seen truth count numbers h =
    leb-true _ _
    (and_right (truth_byte? truth) (leb count (spans_of numbers))
    (and_left (truth_byte? truth && leb count (spans_of numbers)) (seen || (eqb truth 0 && eqb count 0)) h))

-- A stretch of no words holds nothing, and so is sound where the first place is 0.
no_spans_sound : (now latest_first long : ℕ) (latest_last : End) → sound_spans? now latest_first latest_last long [] ≡ true
unfolding sound_spans? sound_from? sound_endless?
no_spans_sound now latest_first long (up_to last) = refl
no_spans_sound now latest_first long no_end = refl

pub bare_sound : (words : List ℕ) (held : Held) (clock last : ℕ) (numbers : Numbers) → length words ≡ 0 → held.count ≡ 0
    → sound_limits? words held clock last numbers ≡ eqb held.first 0
unfolding sound_stretch? spans_from places_of placed? zeros? round_from
bare_sound [] held clock last numbers size none =
    rw (
      none,
      no_spans_sound clock (max clock (last + numbers.a)) (length_of numbers.a (end_of numbers.b)) (last +End end_of numbers.b),
      drop-nil (2 * held.first),
      take-nil (2 * held.first),
    )
    (and-true (eqb held.first 0))
bare_sound (word ∷ words) held clock last numbers size none = absurd (omega arith)

-- Where a row's stretch ends, and that it does so within the store.
pub offset-next : (table : List ℕ) (row : ℕ) {numbers : Numbers} {from words : ℕ} → numbers ≡ numbers_at table row → from ≡ offset table row
    → words ≡ width numbers
    → from + words ≡ offset table (row + 1)
unfolding offset
offset-next table row read place size = rw (add-one, place, size, read)

pub stretch-fits : (table : List ℕ) (size row : ℕ) {numbers : Numbers} {from words : ℕ} → TableReady table size → row < rows_of table
    → numbers ≡ numbers_at table row
    → from ≡ offset table row
    → words ≡ width numbers
    → from + words ≤ size
stretch-fits table size row ready lower read place said =
    let inside : offset table row + width (numbers_at table row) ≤ offset table (rows_of table) = stretch-before table row (rows_of table) lower in
    rw (place, said, read) (omega (arith, ready.room))

-- What a sound record gives: its row count is the table's, its times are in order and within the limit, and every row is sound.
pub record SoundParts (table store : List ℕ) (found : Record) : Type 0 where
  pub counted : found.rows ≡ rows_of table
  pub times : (event_time found ≤ clock_of found) × (clock_of found ≤ time_limit)
  pub rows : every (rows_of table) (sound_row? table store found) ≡ true

pub times-within : (seen clock event : ℕ) → sound_times? seen clock event ≡ true → (event ≤ clock) × (clock ≤ time_limit)
times-within seen clock event h =
    let three = and_left (truth_byte? seen && leb event clock && leb clock time_limit) (is_true seen || eqb event 0) h in
    let two = and_left (truth_byte? seen && leb event clock) (leb clock time_limit) three in (
      leb-true _ _ (and_right (truth_byte? seen) (leb event clock) two),
      leb-true _ _ (and_right (truth_byte? seen && leb event clock) (leb clock time_limit) three),
    )

pub sound_parts : (table store : List ℕ) (found : Record) → sound? table store found ≡ true → SoundParts table store found
unfolding sound?
sound_parts table store found h =
    let count : Bool = eqb found.rows (rows_of table) in
    let timely : Bool = sound_times? found.seen (clock_of found) (event_time found) in
    let rows : Bool = every (rows_of table) (sound_row? table store found) in
    let past : Bool = every row_limit (zero_past? (rows_of table) found.truths found.counts found.firsts) in
    let three = and_left (count && timely && rows) past h in
    let two = and_left (count && timely) rows three in
    record {
      counted = eqb-true _ _ (and_left count timely two);
      times = times-within found.seen (clock_of found) (event_time found) (and_right count timely two);
      rows = and_right (count && timely) rows three;
    }

-- What the check tries for a stretch: of a time within the limit the last number that an event reaches is a sum.
pub ruleset reached_within = (reached-early)
