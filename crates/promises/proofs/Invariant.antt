-- What holds of a stream between any two of its calls: one invariant over the table, the kept true events, the clock and the monitor's state. It holds
-- after a start and every call keeps it; demands 2 and 3 are read off it.
use mathlib.Core.Bool.{Bool, true, false}
use mathlib.Core.List.{List, [], ◌∷◌}
use mathlib.Core.Path.{◌≡◌}
use Prim.Native.Nat.{ℕ, ◌<◌}
use lib.ListN.{length}
use Rattle.meaning.specs.History.{History, last_time}
use Rattle.meaning.specs.Spans.{Span}
use Rattle.meaning.proofs.HistoryLaws.{NoLater}
use Rattle.kinds.specs.Kinds.{Rule, plain, stretch}
use Rattle.rules.specs.Rows.{rows_of, numbers_at, rule_of}
use Rattle.rules.specs.Stretches.{width}
use Rattle.rules.specs.RowFormula.{formula_of}
use Rattle.spans.specs.Layout.{Laid}
use Rattle.row_list.specs.Truths.{truth_at}
use Rattle.soundness.specs.Record.{was_seen, held_at, stretch_at, clock_of, event_time}
use Rattle.promises.specs.Stream.{State}
use Rattle.promises.specs.Conditions.{RecordRight}
use Rattle.promises.proofs.TableRefusals.{TableRoom}
use Rattle.promises.specs.SoundIsKept.{Sized}
use Rattle.promises.specs.Verdicts.{Says}
use Rattle.promises.specs.Spans.{RowRuns}

-- "Before the first event there is nothing".
abbrev pub any_seen : History → Bool
any_seen [] = false
any_seen (e ∷ h) = true

-- A row's spans, by what it says: the runs of its stretch, none where it has no stretch.
abbrev pub Spanned : List ℕ → ℕ → History → ℕ → Rule → List Span → Type 0
Spanned table row h clock (plain says) S = S ≡ []
Spanned table row h clock (stretch columns) S = RowRuns table row columns h clock S

-- A row of the table: its spans follow the kept events and are laid out in its stretch, its truth is the meaning's.
pub record RowFollows (table : List ℕ) (row : ℕ) (h : History) (clock : ℕ) (s : State) : Type 0 where
  pub spans : List Span
  pub spanned : Spanned table row h clock (rule_of (numbers_at table row)) spans
  pub laid : Laid (width (numbers_at table row)) (stretch_at table s.store row) (held_at s.found row) spans
  pub says : Says h (truth_at s.found.truths row) (formula_of table row)

pub record Invariant (table : List ℕ) (h : History) (clock : ℕ) (s : State) : Type 0 where
  -- Time: no event is later than the newest, and the record has its time and the clock.
  pub ordered : NoLater (last_time h) h
  pub event : event_time s.found ≡ last_time h
  pub time : clock_of s.found ≡ clock
  pub seen : was_seen s.found ≡ any_seen h
  -- Room: the table is right, and the store has its need.
  pub ready : TableRoom table (length s.store)
  -- Layout: the record has its entries and is sound.
  pub sized : Sized s.found
  pub sound : RecordRight table s.store s.found
  -- Meaning: every row follows the kept events.
  pub follows : (row : ℕ) → row < rows_of table → RowFollows table row h clock s
