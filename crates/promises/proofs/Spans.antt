-- Demand 3, its runs, read off the invariant.
use mathlib.Core.Bool.{Bool, true, false}
use mathlib.Core.List.{List, [], ◌∷◌}
use mathlib.Core.Logic.{◌↔◌}
use mathlib.Core.Path.{◌≡◌, refl, ◌∙◌}
use Prim.Native.Nat.{ℕ, ◌<◌}
use lib.Dec.{T}
use Rattle.meaning.specs.Interval.{end_of}
use Rattle.meaning.specs.History.{History, last_time}
use Rattle.meaning.specs.Formula.{Formula, Holds}
use Rattle.meaning.specs.Spans.{Span, In}
use Rattle.meaning.proofs.RunsLaws.{runs_tell}
use Rattle.kinds.specs.Kinds.{stretch}
use Rattle.kinds.specs.declared.stretch.Stretch.{Stretch}
use Rattle.rules.specs.Rows.{rows_of, numbers_at, rule_of, kept_by, taken, fed_by}
use Rattle.rules.specs.Stretches.{need_of}
use Rattle.rules.specs.RowFormula.{since_of, formula_of}
use Rattle.rules.proofs.PassedLaws.{passed-formula}
use Rattle.row_list.specs.Truths.{truth_at}
use Rattle.promises.specs.Stream.{State, state, history, clock}
use Rattle.promises.specs.Verdicts.{Says}
use Rattle.promises.specs.Spans.{RowRuns, InOrOut, HoldsRuns, SpansAreTheRuns}
use Rattle.promises.proofs.Invariant.{Invariant}
use Rattle.promises.proofs.InvariantLaws.{passes}
use Rattle.promises.proofs.StreamKept.{stream-kept}

-- A truth that says what is taken of a formula says whether the time is inside or outside, where inside tells the formula.
truth_in_or_out : (inside : Bool) (φ : Formula) (h : History) (truth : Bool) (In? : Type 0)
    → T truth ↔ Holds (taken Formula.negation inside φ) h
    → In? ↔ Holds φ h
    → T truth ↔ InOrOut inside In?
unfolding Holds
truth_in_or_out true φ h truth In? says means = (λ yes. means.1 (says.0 yes), λ is. says.1 (means.0 is))
truth_in_or_out false φ h truth In? says means =
    (λ yes is. says.0 yes (means.0 is), λ outside. says.1 (λ holds. outside (means.1 holds)))

module _ (table : List ℕ) (row : ℕ) (columns : Stretch) where
  abbrev row_formula : Formula
  row_formula = taken Formula.negation columns.inside (since_of (formula_of table) (numbers_at table row) columns)

  -- At an event the row's truth says whether the time lies in its runs.
  true_in_runs : (h : History) (truth : Bool) (S : List Span)
      → ¬ (h ≡ [])
      → Says h truth row_formula
      → RowRuns table row columns h (last_time h) S
      → T truth ↔ InOrOut columns.inside (In (last_time h) S)
  true_in_runs [] truth S some says runs = absurd (some refl)
  true_in_runs (e ∷ h) truth S some says runs =
      truth_in_or_out columns.inside (since_of (formula_of table) (numbers_at table row) columns) (e ∷ h) truth (In e.time S) says
      (runs_tell (kept_by Formula.truth (formula_of table) (numbers_at table row) columns.keep)
      (fed_by Formula.negation (formula_of table) (numbers_at table row) columns) (numbers_at table row).a (end_of (numbers_at table row).b) (e ∷ h) S
      runs)

  module _ (h : History) (clock : ℕ) (s : State) (inv : Invariant table h clock s) (known : row < rows_of table)
      (says : rule_of (numbers_at table row) ≡ stretch columns) where
    row_made : formula_of table row ≡ row_formula
    row_made = passed-formula table (rows_of table) (need_of table) row (passes inv) known ∙ rw says

    row-holds : HoldsRuns table row columns h clock s
    row-holds =
        let runs : RowRuns table row columns h clock (inv.follows row known).spans = rw says at (inv.follows row known).spanned in
        record {
          timed = inv.time;
          spans = (inv.follows row known).spans;
          runs = runs;
          laid = (inv.follows row known).laid;
          at-event =
              λ some still. rw still
              (true_in_runs h (truth_at s.found.truths row) (inv.follows row known).spans some
              (rw row_made at (inv.follows row known).says) (rw still at runs));
        }

pub spans_are_the_runs : SpansAreTheRuns
spans_are_the_runs setup store starts calls row columns known says =
    row-holds setup.table row columns (history calls) (clock calls) (state setup store calls) (stream-kept setup store starts calls) known says
