-- Demand 3, its room, read off the invariant: the calls' refusals are 6 and 5 alone, and runs are sound, so that the figure is enough.
use mathlib.Core.List.{List}
use mathlib.Core.Logic.{⊎_elim}
use mathlib.Core.Path.{◌≡◌, ap}
use Prim.Native.Nat.{ℕ, ◌≤◌, ◌<◌}
use native.Mathlib.Omega.{arith}
use lib.ListN.{length}
use Rattle.kinds.specs.Kinds.{stretch}
use Rattle.refusals.specs.Refusals.{refused, number_of}
use Rattle.kinds.specs.declared.stretch.Stretch.{Stretch}
use Rattle.rules.specs.Rows.{rows_of, numbers_at, rule_of}
use Rattle.rules.specs.Stretches.{spans_of}
use Rattle.refusals.specs.declared.refusal.Refusal.{Refusal}
use Rattle.refusals.specs.declared.refusal.Refusal.TheVariants.{Store, Unsound, Earlier, Late}
use Rattle.meaning.specs.Spans.{Span}
use Rattle.soundness.specs.Setup.{Setup}
use Rattle.monitor.specs.Step.{Call, refusal}
use Rattle.promises.specs.Stream.{Starts, state, history, clock, outcome}
use Rattle.promises.specs.Spans.{RowRuns}
use Rattle.promises.specs.Room.{NeverShortOfRoom}
use Rattle.promises.proofs.Invariant.{Invariant}
use Rattle.promises.proofs.SpannedLaws.{spanned_enough}
use Rattle.promises.proofs.InvariantLaws.{past, passes}
use Rattle.promises.proofs.CallKept.{refused-only}
use Rattle.promises.proofs.StartRight.{start_ready}
use Rattle.promises.proofs.StreamKept.{stream-kept}

module _ (setup : Setup) (store : List ℕ) (starts : Starts setup store) (calls : List Call) where
  stream : Invariant setup.table (history calls) (clock calls) (state setup store calls)
  stream = stream-kept setup store starts calls

  -- A refusal of a stream has number 6 or 5.
  not_refused : (c : Call) (other : Refusal)
      → ¬ (number_of other ≡ number_of Late)
      → ¬ (number_of other ≡ number_of Earlier)
      → ¬ ((outcome setup store calls c).reply ≡ refusal (refused other))
  not_refused c other late earlier said =
      ⊎_elim
      (λ same. late (ap (λ fault. fault.number) same))
      (λ same. earlier (ap (λ fault. fault.number) same))
      (refused-only (start_ready setup store starts).listed stream c (refused other) said)

  runs-enough : (row : ℕ) (columns : Stretch) (S : List Span)
      → row < rows_of setup.table
      → rule_of (numbers_at setup.table row) ≡ stretch columns
      → RowRuns setup.table row columns (history calls) (clock calls) S
      → length S ≤ spans_of (numbers_at setup.table row)
  runs-enough row columns S known since runs =
      rw since
      (spanned_enough setup.table row (history calls) (clock calls) stream.ordered (past stream)
      ((passes stream).good row known).limits
      (stretch columns) S runs)

pub never_short_of_room : NeverShortOfRoom
never_short_of_room setup store starts calls =
    record {
      room = λ c. not_refused setup store starts calls c Store (omega arith) (omega arith);
      sound = λ c. not_refused setup store starts calls c Unsound (omega arith) (omega arith);
      enough = runs-enough setup store starts calls;
    }
