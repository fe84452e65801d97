-- Demand 2: "From a start, with table, store and record left to the monitor, the verdict on each accepted event is yes exactly when the formula holds
-- there under the pointwise meaning over all events accepted so far." "Demand 2 reads over true events" (document 02, E2), and "holds for each listed row" (E4).
use Rattle.std.specs.Prelude.{Bool, false, List, [], ◌∷◌, ◌↔◌, ◌≡◌, ℕ, ◌≤◌, ◌<◌, T, length, get_or}
use Rattle.meaning.specs.History.{History, BitSet}
use Rattle.meaning.specs.Formula.{Formula, Holds}
use Rattle.meaning.specs.Numbered.{HoldsAt, numbered}
use Rattle.refusals.specs.Refusals.{refused}
use Rattle.rules.specs.Rows.{rows_of}
use Rattle.rules.specs.RowFormula.{formula_of}
use Rattle.refusals.specs.declared.refusal.Refusal.TheVariants.{Earlier, Late}
use Rattle.times.specs.Times.{time_limit}
use Rattle.row_list.specs.Truths.{truth_at}
use Rattle.soundness.specs.Setup.{Setup}
use Rattle.monitor.specs.Step.{Call, time_of, verdict, clock_moved, refusal}
use Rattle.promises.specs.Stream.{Starts, Keeps, Beats, state, history, clock, outcome, longer}

-- After any stream, one call more. It is answered with a verdict if and only if it is a true event and kept, with "clock moved" if and only if it is a
-- heartbeat and kept, otherwise with 6 over the limit, and else with 5.
pub record Answered (setup : Setup) (store : List ℕ) (calls : List Call) (c : Call) : Type 0 where
  pub judged : Keeps (clock calls) c → ¬ Beats c → (number : ℕ) × ((outcome setup store calls c).reply ≡ verdict number)
  pub moved : Keeps (clock calls) c → Beats c → (outcome setup store calls c).reply ≡ clock_moved
  pub only-judged : (number : ℕ) → (outcome setup store calls c).reply ≡ verdict number → Keeps (clock calls) c × (¬ Beats c)
  pub only-moved : (outcome setup store calls c).reply ≡ clock_moved → Keeps (clock calls) c × Beats c
  pub late : time_limit < time_of (clock calls) c → (outcome setup store calls c).reply ≡ refusal (refused Late)
  pub earlier : time_of (clock calls) c ≤ time_limit
      → time_of (clock calls) c < clock calls
      → (outcome setup store calls c).reply ≡ refusal (refused Earlier)

-- A row's truth: no before the first true event, then yes exactly when the formula holds at the last one, over the true events so far.
abbrev pub Says : History → Bool → Formula → Type 0
Says [] truth φ = truth ≡ false
Says (e ∷ h) truth φ = T truth ↔ Holds φ (e ∷ h)

-- After the start and after every call, refused or not, a heartbeat too, every row's truth says so of its formula.
pub record Truthful (setup : Setup) (store : List ℕ) (calls : List Call) : Type 0 where
  pub answered : (c : Call) → Answered setup store calls c
  pub truths : (row : ℕ)
      → row < rows_of setup.table
      → Says (history calls) (truth_at (state setup store calls).found.truths row) (formula_of setup.table row)

abbrev pub TruthsAreMeaning : Type 0
TruthsAreMeaning = (setup : Setup) (store : List ℕ) → Starts setup store → (calls : List Call) → Truthful setup store calls

-- The formula of the k-th listed row, k from 0.
abbrev pub judged_formula : Setup → ℕ → Formula
judged_formula setup k = formula_of setup.table (get_or setup.list k 0)

-- "bit k is the verdict of the k-th listed row": it is set exactly when that row's formula holds, over the kept true events, and in the words of document
-- 01's table, at the event whose number is that of the true events kept before, counted from 0. "other bits 0".
pub record Meant (setup : Setup) (calls : List Call) (c : Call) (number : ℕ) : Type 0 where
  pub holding : (k : ℕ) → k < length setup.list → BitSet k number ↔ Holds (judged_formula setup k) (longer calls c)
  pub by_number : (k : ℕ)
      → k < length setup.list
      → BitSet k number ↔ HoldsAt (numbered (longer calls c)) (judged_formula setup k) (length (history calls))
  pub others : (k : ℕ) → length setup.list ≤ k → ¬ BitSet k number

abbrev pub VerdictIsMeaning : Type 0
VerdictIsMeaning = (setup : Setup) (store : List ℕ)
    → Starts setup store
    → (calls : List Call) (c : Call) (number : ℕ)
    → (outcome setup store calls c).reply ≡ verdict number
    → Meant setup calls c number
