-- The test of a row's stretch tells document 01's conditions on it, in both directions, where table and store passed before it. A row that is no
-- since row has an empty stretch, which is right.
use mathlib.Core.Bool.{Bool, false, ◌||◌, beq}
use mathlib.Core.List.{List, []}
use mathlib.Core.Logic.{◌⊎◌, inl, inr, ⊎_elim}
use mathlib.Core.Path.{◌≡◌, refl, subst}
use Prim.Native.Nat.{ℕ, ◌+◌, ◌%◌, ◌≤◌, ◌<◌, max}
use native.Mathlib.Omega.{arith}
use lib.Dec.{eqb}
use lib.ListN.{length, get_or, get_or-eq_default}
use Rattle.meaning.specs.Interval.{end_of, ◌+End◌}
use Rattle.meaning.specs.Spans.{Span}
use Rattle.meaning.specs.Sound.{length_of}
use Rattle.meaning.proofs.SpansLaws.{le_or_lt}
use Rattle.meaning.proofs.SoundLaws.{none-sound}
use Rattle.meaning.specs.Figure.{figure}
use Rattle.meaning.proofs.Tells.{Tells, tells_eqb, tells_or, tells_same, tells_decided, told_true, told_false}
use Rattle.kinds.specs.Kinds.{Kind, kinds, has_stretch}
use Rattle.kinds.proofs.KindsLaws.{kinds_pass, past_bare}
use Rattle.rules.specs.Limits.{row_numbers}
use Rattle.rules.specs.Rows.{rows_of, field_at, numbers_at, rule_of}
use Rattle.rules.specs.Stretches.{spans_of, width}
use Rattle.rules.specs.declared.numbers.Numbers.{Numbers}
use Rattle.rules.proofs.PassedLaws.{InRange}
use Rattle.rules.proofs.StretchesLaws.{spans_by_column, stretch-before}
use Rattle.soundness.specs.declared.record.Record.{Record}
use Rattle.spans.specs.Layout.{round_from, words_of, packed}
use Rattle.times.specs.Times.{time_limit}
use Rattle.soundness.specs.Record.{held_at, stretch_at, clock_of, event_time}
use Rattle.soundness.specs.Soundness.{sound_limits?}
use Rattle.spans.proofs.LayoutLaws.{Stored}
use Rattle.sound_spans.proofs.SoundTold.{sound_stored, stretch-told}
use Rattle.monitor.proofs.EventLaws.{length_stretch}
use Rattle.promises.specs.Conditions.{LengthRight, LimitsRight, SinceKind, IsSince, RowSound, StretchRight}
use Rattle.promises.proofs.TableRefusals.{TableRoom}
use Rattle.promises.proofs.Deciding.{same_tells}
use Rattle.promises.proofs.RangeLaws.{latest_storable}

-- "each since row owns its own stretch", and no other row: one test over the lines of the table of kinds and their numbers. Past its end there is no
-- stretch and no since row.
abbrev since_kind : ℕ → Bool
since_kind kind = eqb kind 6 || (eqb kind 7 || eqb kind 8)

since_kind_told : (kind : ℕ) → Tells (since_kind kind) (SinceKind kind)
since_kind_told kind = tells_or (tells_eqb kind 6) (tells_or (tells_eqb kind 7) (tells_eqb kind 8))

past-none : (kind : ℕ) → length kinds ≤ kind → ¬ SinceKind kind
past-none kind past = ⊎_elim (λ six. omega arith) (⊎_elim (λ seven. omega arith) (λ eight. omega arith))

pub owns_told : (n : Numbers) → Tells (has_stretch (rule_of n)) (IsSince n)
owns_told n =
    ⊎_elim
    (λ past. rw (past_bare n.kind past) (record { sound = λ none. absurd none; complete = past-none n.kind past }))
    (λ known.
    same_tells (has_stretch (rule_of n)) (since_kind n.kind)
    (kinds_pass (λ (number : ℕ) (k : Kind). beq (has_stretch k.rule) (since_kind number)) refl n.kind known) (since_kind_told n.kind))
    (le_or_lt (length kinds) n.kind)

pub since_or_other : (n : Numbers) → IsSince n ⊎ (¬ IsSince n)
since_or_other n = tells_decided (owns_told n)

pub other-rule : (n : Numbers) → ¬ IsSince n → has_stretch (rule_of n) ≡ false
other-rule n other = told_false (owns_told n) other

pub since-spans : (n : Numbers) → IsSince n → spans_of n ≡ figure n.a (end_of n.b)
since-spans n since = rw (spans_by_column (rule_of n) n, told_true (owns_told n) since)

pub other-spans : (n : Numbers) → ¬ IsSince n → spans_of n ≡ 0
other-spans n other = rw (spans_by_column (rule_of n) n, other-rule n other)

pub in_range_of : {a b : ℕ} → LimitsRight a b → InRange a b
in_range_of limits = record { least = limits.low; most = ⊎_elim inr inl limits.high }

-- Past its rows a table of whole rows has no number, so no since row.
pub past-other : (table : List ℕ) (row : ℕ) → LengthRight table → rows_of table ≤ row → ¬ IsSince (numbers_at table row)
unfolding numbers_at
past-other table row right past since =
    let whole : length table % row_numbers ≡ 0 = right.whole in
    let none : field_at table row 0 ≡ 0 = get_or-eq_default table 0 (omega arith) in
    (since_kind_told 0).complete (subst SinceKind none since)

-- Sound spans can be stored.
pub row_stored : (n : Numbers) (now event : ℕ) (S : List Span) → event ≤ time_limit → InRange n.a n.b → RowSound n now event S → Stored S
row_stored n now event S within range sound =
    sound_stored now (max now (event + n.a)) (event +End end_of n.b) (length_of n.a (end_of n.b)) S
    (latest_storable event n.a n.b within range) sound

module _ (table store : List ℕ) (ready : TableRoom table (length store)) (found : Record) where
  stretch_length : (row : ℕ) → row < rows_of table → length (stretch_at table store row) ≡ width (numbers_at table row)
  stretch_length row lower = length_stretch table store row (omega (arith, stretch-before table row (rows_of table) lower, ready.room))

  pub row_stretch_told : event_time found ≤ time_limit
      → (row : ℕ)
      → row < rows_of table
      → Tells (sound_limits? (stretch_at table store row) (held_at found row) (clock_of found) (event_time found) (numbers_at table row))
      (StretchRight table store found row)
  row_stretch_told early row lower =
      let n = numbers_at table row in
      let event = event_time found in
      let range : InRange n.a n.b = in_range_of (ready.right.rows row lower).1 in
      let size : length (stretch_at table store row) ≡ width n = stretch_length row lower in
      tells_same
      (λ stretch. record { spans = stretch.spans; laid = rw (← size) stretch.laid; sound = stretch.sound })
      (λ stretch. record { spans = stretch.spans; laid = rw size stretch.laid; sound = stretch.sound })
      (stretch-told (stretch_at table store row) (held_at found row) (clock_of found) (max (clock_of found) (event + n.a)) (event +End end_of n.b)
      (length_of n.a (end_of n.b)) (latest_storable event n.a n.b early range))

  pub other-stretch : (row : ℕ) → ¬ IsSince (numbers_at table row) → get_or found.counts row 0 ≡ 0 → get_or found.firsts row 0 ≡ 0
      → StretchRight table store found row
  unfolding stretch_at packed words_of round_from
  other-stretch row other none start =
      let n = numbers_at table row in
      record {
        spans = [];
        laid =
            record {
              written = rw (other-spans n other, start);
              counted = none;
              unplaced = λ _. start;
              inside = λ some. absurd (omega (arith, none));
            };
        sound = none-sound (clock_of found) (max (clock_of found) (event_time found + n.a)) (event_time found +End end_of n.b) (length_of n.a (end_of n.b));
      }
