-- One event, and one heartbeat, from any sound record, as sets. "a since row's spans are clipped at t and ended ones dropped, then all dropped if x is now
-- false, then t+a to t+b is joined in if y is true"; "An unreached but sound record, or another table that passes, is answered by the same one-event rules
-- from the spans and truths found." For every setup, store and record, and every call that is accepted with them: the record is then sound, whether or not
-- a stream reaches it. Of a heartbeat "spans are clipped at its time, truths stay those of the last true event" (document 02, E2).
use Rattle.std.specs.Prelude.{true, not, List, ◌↔◌, ◌⊎◌, ◌≡◌, ℕ, ◌≤◌, ◌<◌, T}
use Rattle.meaning.specs.Interval.{end_of, Within}
use Rattle.meaning.specs.Spans.{Span, In, Rising}
use Rattle.kinds.specs.Kinds.{stretch}
use Rattle.kinds.specs.declared.stretch.Stretch.{Stretch}
use Rattle.rules.specs.Rows.{rows_of, numbers_at, rule_of, kept_by, fed_by}
use Rattle.rules.specs.Stretches.{width}
use Rattle.spans.specs.Layout.{Laid}
use Rattle.soundness.specs.declared.record.Record.{Record}
use Rattle.row_list.specs.Truths.{truth_at}
use Rattle.soundness.specs.Record.{held_at, stretch_at, spans_found, clock_of, event_time}
use Rattle.soundness.specs.Setup.{Setup}
use Rattle.monitor.specs.Step.{Call, time_of, verdict, clock_moved, step_of}
use Rattle.promises.specs.SoundIsKept.{Sized}
use Rattle.promises.specs.Spans.{InOrOut}

-- Whether a row's spans are kept, and whether it is fed, by the truths of a record, as `Spans` says it by formulas.
abbrev pub KeeperTrue : List ℕ → ℕ → Stretch → Record → Type 0
KeeperTrue table row columns r = T (kept_by true (truth_at r.truths) (numbers_at table row) columns.keep)

abbrev pub FeederTrue : List ℕ → ℕ → Stretch → Record → Type 0
FeederTrue table row columns r = T (fed_by not (truth_at r.truths) (numbers_at table row) columns)

-- What a row's stretch lays out, with its count.
abbrev pub LaysOut : List ℕ → ℕ → List ℕ → Record → List Span → Type 0
LaysOut table row store r S = Laid (width (numbers_at table row)) (stretch_at table store row) (held_at r row) S

-- Where S are the spans of a row, u belongs to them after an event at t: they are kept, u is not before t and belonged to S; or the row is fed and u - t
-- is in [a,b]. Kept and fed by the truths of the record that the call leaves.
abbrev pub BelongsAfter : List ℕ → ℕ → Stretch → Record → ℕ → List Span → ℕ → Type 0
BelongsAfter table row columns left t S u =
    (KeeperTrue table row columns left × (t ≤ u) × In u S)
    ⊎ (FeederTrue table row columns left × Within (numbers_at table row).a (end_of (numbers_at table row).b) t u)

-- The spans found are those that the words found lay out; those after rise from the call's time, a gap between each two, have exactly these members
-- and are laid out in the words after; and "The row is true at t exactly when t lies in a span", or in none, by the column.
pub record OneEvent (setup : Setup) (store : List ℕ) (found : Record) (c : Call) (row : ℕ) (columns : Stretch) : Type 0 where
  pub before : LaysOut setup.table row store found (spans_found setup.table store found row)
  pub spans : List Span
  pub rising : Rising (time_of (clock_of found) c) spans
  pub exact : (u : ℕ)
      → In u spans
      ↔ BelongsAfter setup.table row columns (step_of setup store found c).left (time_of (clock_of found) c)
      (spans_found setup.table store found row) u
  pub true_in : T (truth_at (step_of setup store found c).left.truths row) ↔ InOrOut columns.inside (In (time_of (clock_of found) c) spans)
  pub laid : LaysOut setup.table row (step_of setup store found c).store (step_of setup store found c).left spans

abbrev pub OneEventFromAny : Type 0
OneEventFromAny = (setup : Setup) (store : List ℕ) (found : Record) (c : Call) (number : ℕ) (row : ℕ) (columns : Stretch)
    → Sized found
    → (step_of setup store found c).reply ≡ verdict number
    → row < rows_of setup.table
    → rule_of (numbers_at setup.table row) ≡ stretch columns
    → OneEvent setup store found c row columns

-- A heartbeat: u belongs to a row's spans after it exactly when u belonged to them and is not before its time; they rise from there and are laid out in
-- the words after.
pub record OneHeartbeat (setup : Setup) (store : List ℕ) (found : Record) (c : Call) (row : ℕ) : Type 0 where
  pub before : LaysOut setup.table row store found (spans_found setup.table store found row)
  pub spans : List Span
  pub rising : Rising (time_of (clock_of found) c) spans
  pub exact : (u : ℕ) → In u spans ↔ ((time_of (clock_of found) c ≤ u) × In u (spans_found setup.table store found row))
  pub laid : LaysOut setup.table row (step_of setup store found c).store (step_of setup store found c).left spans

-- What it leaves of the record: the clock at its time, and all else but the span counts and first places as found.
pub record OnlyClockMoved (found left : Record) (time : ℕ) : Type 0 where
  pub clock : clock_of left ≡ time
  pub event : event_time left ≡ event_time found
  pub seen : left.seen ≡ found.seen
  pub rows : left.rows ≡ found.rows
  pub truths : left.truths ≡ found.truths

pub record HeartbeatFromAny : Type 0 where
  pub spans : (setup : Setup) (store : List ℕ) (found : Record) (c : Call) (row : ℕ)
      → Sized found
      → (step_of setup store found c).reply ≡ clock_moved
      → row < rows_of setup.table
      → OneHeartbeat setup store found c row
  pub others : (setup : Setup) (store : List ℕ) (found : Record) (c : Call)
      → (step_of setup store found c).reply ≡ clock_moved
      → OnlyClockMoved found (step_of setup store found c).left (time_of (clock_of found) c)
