-- Demand 3, its room: "With it no event is refused for room, however long the stream." "No smaller figure serves: for any allowed a and b some table
-- and stream fill every span."
use Rattle.std.specs.Prelude.{List, map, ◌≡◌, ℕ, ◌≤◌, ◌<◌, length, get_or}
use Rattle.meaning.specs.Interval.{end_of}
use Rattle.meaning.specs.Formula.{truth, bit, Holds}
use Rattle.meaning.specs.Spans.{Span}
use Rattle.meaning.specs.Runs.{Runs}
use Rattle.meaning.specs.Figure.{figure}
use Rattle.kinds.specs.Kinds.{stretch}
use Rattle.refusals.specs.Refusals.{refused}
use Rattle.kinds.specs.declared.stretch.Stretch.{Stretch}
use Rattle.rules.specs.Rows.{rows_of, numbers_at, rule_of}
use Rattle.rules.specs.Stretches.{spans_of, need_of}
use Rattle.refusals.specs.declared.refusal.Refusal.TheVariants.{Store, Unsound}
use Rattle.soundness.specs.Setup.{Setup, setup_of}
use Rattle.monitor.specs.Step.{Call, event, refusal}
use Rattle.promises.specs.Stream.{Starts, state, history, clock, outcome}
use Rattle.promises.specs.Conditions.{LimitsRight, SinceKind}
use Rattle.promises.specs.Spans.{RowRuns}

-- No call of a stream answers 4 or 7; and the runs, whatever room there is, are at most the figure.
pub record NeverShort (setup : Setup) (store : List ℕ) (calls : List Call) : Type 0 where
  pub room : (c : Call) → ¬ ((outcome setup store calls c).reply ≡ refusal (refused Store))
  pub sound : (c : Call) → ¬ ((outcome setup store calls c).reply ≡ refusal (refused Unsound))
  pub enough : (row : ℕ) (columns : Stretch) (S : List Span)
      → row < rows_of setup.table
      → rule_of (numbers_at setup.table row) ≡ stretch columns
      → RowRuns setup.table row columns (history calls) (clock calls) S
      → length S ≤ spans_of (numbers_at setup.table row)

abbrev pub NeverShortOfRoom : Type 0
NeverShortOfRoom = (setup : Setup) (store : List ℕ) → Starts setup store → (calls : List Call) → NeverShort setup store calls

-- Events at these times, each with bit 0 and no other.
abbrev pub pulses_at : List ℕ → List Call
pulses_at times = map (λ (time : ℕ). event time 1) times

-- Every call of the list is kept.
abbrev pub AllKept : List Call → Type 0
AllKept calls = length (history calls) ≡ length calls

-- A table with a row of this kind and exactly these limits, a list, and a stream, all kept, after which the row's count is the figure, whatever the words of a
-- store of exactly the need.
pub record Filled (kind a b : ℕ) : Type 0 where
  pub table : List ℕ
  pub list : List ℕ
  pub row : ℕ
  pub inside : row < rows_of table
  pub of_kind : (numbers_at table row).kind ≡ kind
  pub from : (numbers_at table row).a ≡ a
  pub to : (numbers_at table row).b ≡ b
  pub times : List ℕ
  pub kept : AllKept (pulses_at times)
  pub starts : (store : List ℕ) → length store ≡ need_of table → Starts (setup_of table list) store
  pub full : (store : List ℕ)
      → length store ≡ need_of table
      → get_or (state (setup_of table list) store (pulses_at times)).found.counts row 0 ≡ figure a (end_of b)

-- The same of the runs alone, so that no other layout does with fewer.
pub record RunsFill (a b : ℕ) : Type 0 where
  pub times : List ℕ
  pub kept : AllKept (pulses_at times)
  pub spans : List Span
  pub runs : Runs (Holds truth) (Holds (bit 0)) a (end_of b) (history (pulses_at times)) (clock (pulses_at times)) spans
  pub many : length spans ≡ figure a (end_of b)

pub record FigureIsReached : Type 0 where
  pub rows : (kind a b : ℕ) → SinceKind kind → LimitsRight a b → Filled kind a b
  pub runs : (a b : ℕ) → LimitsRight a b → RunsFill a b
