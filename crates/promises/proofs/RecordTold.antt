-- The test of soundness tells document 01's conditions on a record, in both directions, where table and store passed before it.
use mathlib.Core.Bool.{false, ◌&&◌}
use mathlib.Core.List.{List}
use mathlib.Core.Logic.{◌⊎◌, inl, inr, ⊎_elim}
use mathlib.Core.Path.{◌≡◌, refl}
use Prim.Native.Nat.{ℕ, ◌≤◌, ◌<◌}
use native.Mathlib.Omega.{arith}
use lib.Dec.{T, eqb}
use lib.ListN.{length, get_or}
use Rattle.meaning.proofs.SpansLaws.{le_or_lt}
use Rattle.meaning.proofs.Tells.{Tells, tells_flag, tells_leb, tells_ltb, tells_eqb, tells_and, tells_or, tells_same}
use Rattle.rules.specs.Limits.{row_limit}
use Rattle.rules.specs.Rows.{rows_of, numbers_at}
use Rattle.rules.specs.Stretches.{spans_of}
use Rattle.soundness.specs.declared.record.Record.{Record}
use Rattle.times.specs.Times.{time_limit}
use Rattle.row_list.specs.Truths.{truth_at}
use Rattle.soundness.specs.Record.{was_seen, clock_of, event_time}
use Rattle.soundness.specs.Soundness.{sound_entry?, sound_row?, zero_past?, sound_times?, sound?}
use Rattle.row_list.proofs.TruthsLaws.{byte_unset}
use Rattle.promises.specs.Conditions.{StretchRight, RecordRight}
use Rattle.promises.proofs.TableRefusals.{TableRoom}
use Rattle.promises.proofs.Deciding.{tells_and_then, tells_every, set_or, or_unset}
use Rattle.promises.proofs.StretchTold.{since_or_other, since-spans, other-spans, past-other, row_stretch_told, other-stretch}

pub within_or_past : (table : List ℕ) (row : ℕ) → (row < rows_of table) ⊎ (rows_of table ≤ row)
within_or_past table row = ⊎_elim inr inl (le_or_lt (rows_of table) row)

-- A row of which nothing is said.
abbrev Blank : Record → ℕ → Type 0
Blank found row = (get_or found.truths row 0 ≡ 0) × (get_or found.counts row 0 ≡ 0)

-- A byte of 0 tells false.
unset_at : (truths : List ℕ) (row : ℕ) → get_or truths row 0 ≡ 0 → truth_at truths row ≡ false
unset_at truths row none = rw none refl

-- What the test asks of the times, of a row of the table, and of what stands past the rows.
record TimesRight (found : Record) : Type 0 where
  byte : found.seen ≤ 1
  order : event_time found ≤ clock_of found
  limit : clock_of found ≤ time_limit
  unseen : T (was_seen found) ⊎ (event_time found ≡ 0)

times-told : (found : Record) → Tells (sound_times? found.seen (clock_of found) (event_time found)) (TimesRight found)
times-told found =
    tells_same
    (λ h. record { byte = h.0.0.0; order = h.0.0.1; limit = h.0.1; unseen = h.1 })
    (λ times. (((times.byte, times.order), times.limit), times.unseen))
    (tells_and
    (tells_and (tells_and (tells_leb found.seen 1) (tells_leb (event_time found) (clock_of found))) (tells_leb (clock_of found) time_limit))
    (tells_or (tells_flag (was_seen found)) (tells_eqb (event_time found) 0)))

record EntryRight (table : List ℕ) (found : Record) (row : ℕ) : Type 0 where
  byte : get_or found.truths row 0 ≤ 1
  count : get_or found.counts row 0 ≤ spans_of (numbers_at table row)
  unseen : T (was_seen found) ⊎ Blank found row

blank_told : (found : Record) (row : ℕ) → Tells (eqb (get_or found.truths row 0) 0 && eqb (get_or found.counts row 0) 0) (Blank found row)
blank_told found row = tells_and (tells_eqb (get_or found.truths row 0) 0) (tells_eqb (get_or found.counts row 0) 0)

entry_told : (table : List ℕ) (found : Record) (row : ℕ)
    → Tells (sound_entry? (was_seen found) (get_or found.truths row 0) (get_or found.counts row 0) (numbers_at table row)) (EntryRight table found row)
entry_told table found row =
    tells_same
    (λ h. record { byte = h.0.0; count = h.0.1; unseen = h.1 })
    (λ entry. ((entry.byte, entry.count), entry.unseen))
    (tells_and
    (tells_and (tells_leb (get_or found.truths row 0) 1) (tells_leb (get_or found.counts row 0) (spans_of (numbers_at table row))))
    (tells_or (tells_flag (was_seen found)) (blank_told found row)))

-- The same with no first place.
abbrev Bare : Record → ℕ → Type 0
Bare found row = Blank found row × (get_or found.firsts row 0 ≡ 0)

past-told : (table : List ℕ) (found : Record) (row : ℕ)
    → Tells (zero_past? (rows_of table) found.truths found.counts found.firsts row) ((row < rows_of table) ⊎ Bare found row)
unfolding zero_past?
past-told table found row =
    tells_or
    (tells_ltb row (rows_of table))
    (tells_same
    (λ h. ((h.0, h.1.0), h.1.1))
    (λ bare. (bare.0.0, (bare.0.1, bare.1)))
    (tells_and (tells_eqb (get_or found.truths row 0) 0) (tells_and (tells_eqb (get_or found.counts row 0) 0) (tells_eqb (get_or found.firsts row 0) 0))))

-- What it asks of the record, in its order.
record Tested (table store : List ℕ) (found : Record) : Type 0 where
  count : found.rows ≡ rows_of table
  times : TimesRight found
  rows : (row : ℕ) → row < rows_of table → EntryRight table found row × StretchRight table store found row
  past : (row : ℕ) → row < row_limit → (row < rows_of table) ⊎ Bare found row

module _ (table store : List ℕ) (ready : TableRoom table (length store)) (found : Record) where
  row_told : event_time found ≤ time_limit
      → (row : ℕ)
      → row < rows_of table
      → Tells (sound_row? table store found row) (EntryRight table found row × StretchRight table store found row)
  unfolding sound_row?
  row_told early row lower = tells_and (entry_told table found row) (row_stretch_told table store ready found early row lower)

  test_told : Tells (sound? table store found) (Tested table store found)
  unfolding sound?
  test_told =
      tells_same
      (λ h. record { count = h.0.0.0; times = h.0.0.1; rows = h.0.1; past = h.1 })
      (λ tested. (((tested.count, tested.times), tested.rows), tested.past))
      (tells_and
      (tells_and_then
      (tells_and (tells_eqb found.rows (rows_of table)) (times-told found))
      (λ before. tells_every (rows_of table) (sound_row? table store found) _ (row_told (omega (arith, before.1.order, before.1.limit)))))
      (tells_every row_limit (zero_past? (rows_of table) found.truths found.counts found.firsts) _ (λ row lower. past-told table found row)))

  -- A row is one of the table's, or nothing is said of it.
  row_or_blank : Tested table store found → (row : ℕ) → row < row_limit → ((row < rows_of table) × EntryRight table found row) ⊎ Blank found row
  row_or_blank tested row lower = ⊎_elim (λ known. inl (known, (tested.rows row known).0)) (λ bare. inr bare.0) (tested.past row lower)

  right_of_tested : Tested table store found → RecordRight table store found
  right_of_tested tested =
      record {
        rows = tested.count;
        past = λ row past lower. ⊎_elim (λ known. absurd (omega arith)) (λ bare. unset_at found.truths row bare.0.0) (tested.past row lower);
        others = λ row lower other.
            ⊎_elim
            (λ known. omega (arith, known.1.count, other-spans (numbers_at table row) other))
            (λ blank. blank.1)
            (row_or_blank tested row lower);
        unplaced = λ row lower other.
            ⊎_elim
            (λ known.
            (tested.rows row known).1.laid.unplaced
            (omega (arith, (tested.rows row known).0.count, other-spans (numbers_at table row) other)))
            (λ bare. bare.1)
            (tested.past row lower);
        within = λ row lower since.
            ⊎_elim
            (λ known. rw (← since-spans (numbers_at table row) since) known.1.count)
            (λ blank. omega (arith, blank.1))
            (row_or_blank tested row lower);
        unseen_time = or_unset (was_seen found) tested.times.unseen;
        unseen_rows = λ unseen row lower.
            let blank = ⊎_elim (λ known. or_unset (was_seen found) known.1.unseen unseen) (λ blank. blank) (row_or_blank tested row lower) in
            (unset_at found.truths row blank.0, blank.1);
        order = tested.times.order;
        limit = tested.times.limit;
        seen_byte = tested.times.byte;
        truth-bytes = λ row lower. ⊎_elim (λ known. omega (arith, known.1.byte)) (λ blank. omega (arith, blank.0)) (row_or_blank tested row lower);
        stretches = λ row lower since. (tested.rows row lower).1;
      }

  -- What tells false in a sound record is 0.
  blank_of : RecordRight table store found
      → (row : ℕ)
      → row < row_limit
      → truth_at found.truths row ≡ false
      → get_or found.counts row 0 ≡ 0
      → Blank found row
  blank_of right row lower unset none = (byte_unset (get_or found.truths row 0) (right.truth-bytes row lower) unset, none)

  entry_of_right : RecordRight table store found → (row : ℕ) → row < rows_of table → EntryRight table found row
  entry_of_right right row known =
      let lower : row < row_limit = omega (arith, ready.right.lengths.most) in
      record {
        byte = right.truth-bytes row lower;
        count =
            ⊎_elim
            (λ since. rw (since-spans (numbers_at table row) since) (right.within row lower since))
            (λ other. omega (arith, right.others row lower other))
            (since_or_other (numbers_at table row));
        unseen =
            set_or (was_seen found)
            (λ unseen. let both = right.unseen_rows unseen row lower in blank_of right row lower both.0 both.1);
      }

  past_of_right : RecordRight table store found → (row : ℕ) → row < row_limit → (row < rows_of table) ⊎ Bare found row
  past_of_right right row lower =
      ⊎_elim
      inl
      (λ past.
      let other = past-other table row ready.right.lengths past in
      inr (blank_of right row lower (right.past row past lower) (right.others row lower other), right.unplaced row lower other))
      (within_or_past table row)

  -- Every row's stretch of a sound record is right, a since row's or not.
  pub all-stretches : RecordRight table store found → (row : ℕ) → row < rows_of table → StretchRight table store found row
  all-stretches right row lower =
      ⊎_elim
      (right.stretches row lower)
      (λ other.
      let within : row < row_limit = omega (arith, ready.right.lengths.most) in
      other-stretch table store ready found row other (right.others row within other) (right.unplaced row within other))
      (since_or_other (numbers_at table row))

  pub record_told : Tells (sound? table store found) (RecordRight table store found)
  record_told =
      tells_same right_of_tested
      (λ right.
      record {
        count = right.rows;
        times =
            record {
              byte = right.seen_byte;
              order = right.order;
              limit = right.limit;
              unseen = set_or (was_seen found) right.unseen_time;
            };
        rows = λ row lower. (entry_of_right right row lower, all-stretches right row lower);
        past = past_of_right right;
      })
      test_told
