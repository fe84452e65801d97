-- Demand 3, its runs: "After each event a row's spans are exactly the unbroken runs of present or future milliseconds its past events reach, rising,
-- a gap between each two." The present is the clock ("'t' in the span rule (but for truths) and demand 3 is the clock", document 02, E2).
use Rattle.std.specs.Prelude.{Bool, true, false, List, [], ◌↔◌, ◌≡◌, ℕ, ◌<◌, T}
use Rattle.meaning.specs.Interval.{end_of}
use Rattle.meaning.specs.History.{History, last_time}
use Rattle.meaning.specs.Formula.{Formula, Holds}
use Rattle.meaning.specs.Spans.{Span, In}
use Rattle.meaning.specs.Runs.{Runs}
use Rattle.kinds.specs.Kinds.{stretch}
use Rattle.kinds.specs.declared.stretch.Stretch.{Stretch}
use Rattle.rules.specs.Rows.{rows_of, numbers_at, rule_of, kept_by, fed_by}
use Rattle.rules.specs.Stretches.{width}
use Rattle.rules.specs.RowFormula.{formula_of}
use Rattle.spans.specs.Layout.{Laid}
use Rattle.row_list.specs.Truths.{truth_at}
use Rattle.soundness.specs.Record.{held_at, stretch_at, clock_of}
use Rattle.soundness.specs.Setup.{Setup}
use Rattle.monitor.specs.Step.{Call}
use Rattle.promises.specs.Stream.{State, Starts, state, history, clock}

-- What keeps the spans of a row with a stretch at an event, and what feeds them: of "x since y", that x is true, and that y is; of "once x", nothing and
-- that x is true; of "always x", nothing and that x is false.
abbrev pub KeeperHolds : List ℕ → ℕ → Stretch → History → Type 0
KeeperHolds table row columns = Holds (kept_by Formula.truth (formula_of table) (numbers_at table row) columns.keep)

abbrev pub FeederHolds : List ℕ → ℕ → Stretch → History → Type 0
FeederHolds table row columns = Holds (fed_by Formula.negation (formula_of table) (numbers_at table row) columns)

-- The runs of the row over a history, at a time.
abbrev pub RowRuns : List ℕ → ℕ → Stretch → History → ℕ → List Span → Type 0
RowRuns table row columns =
    Runs (KeeperHolds table row columns) (FeederHolds table row columns) (numbers_at table row).a (end_of (numbers_at table row).b)

-- True inside a span, or outside every span, by the column.
abbrev pub InOrOut : Bool → Type 0 → Type 0
InOrOut true inside = inside
InOrOut false inside = ¬ inside

-- At the clock, which the record has, the words of the row's stretch lay out the runs of the true events, its other words are 0 and its count is their
-- number. A row's truth is about the last true event: where the clock is still at that event's time, it says whether the clock lies in the runs.
pub record HoldsRuns (table : List ℕ) (row : ℕ) (columns : Stretch) (h : History) (clock : ℕ) (s : State) : Type 0 where
  pub timed : clock_of s.found ≡ clock
  pub spans : List Span
  pub runs : RowRuns table row columns h clock spans
  pub laid : Laid (width (numbers_at table row)) (stretch_at table s.store row) (held_at s.found row) spans
  pub at-event : ¬ (h ≡ []) → clock ≡ last_time h → T (truth_at s.found.truths row) ↔ InOrOut columns.inside (In clock spans)

-- After the start and after every call, refused or not.
abbrev pub SpansAreTheRuns : Type 0
SpansAreTheRuns = (setup : Setup) (store : List ℕ)
    → Starts setup store
    → (calls : List Call) (row : ℕ) (columns : Stretch)
    → row < rows_of setup.table
    → rule_of (numbers_at setup.table row) ≡ stretch columns
    → HoldsRuns setup.table row columns (history calls) (clock calls) (state setup store calls)
