-- What the invariant gives: the table passes, and the spans found in each row are those that were laid out.
use mathlib.Core.List.{List}
use mathlib.Core.Path.{◌≡◌}
use Prim.Native.Nat.{ℕ, ◌≤◌, ◌<◌}
use native.Mathlib.Omega.{arith}
use Rattle.meaning.specs.History.{History, last_time}
use Rattle.rules.specs.Rows.{rows_of, numbers_at, rule_of}
use Rattle.rules.specs.Stretches.{need_of}
use Rattle.rules.proofs.PassedLaws.{InRange, Passed, passed_gives}
use Rattle.times.specs.Times.{time_limit}
use Rattle.soundness.specs.Record.{spans_found}
use Rattle.spans.proofs.LayoutLaws.{laid-read}
use Rattle.promises.specs.Stream.{State}
use Rattle.promises.proofs.Invariant.{Invariant}
use Rattle.promises.proofs.TableRefusals.{table-passes}
use Rattle.promises.proofs.StretchTold.{row_stored}
use Rattle.promises.proofs.SpannedLaws.{spanned_sound}

module _ {table : List ℕ} {h : History} {clock : ℕ} {s : State} (inv : Invariant table h clock s) where
  -- The last event is not after the clock, and both are within the limit.
  pub past : last_time h ≤ clock
  past = omega (arith, inv.event, inv.time, inv.sound.order)

  pub clock-within : clock ≤ time_limit
  clock-within = omega (arith, inv.time, inv.sound.limit)

  pub passes : Passed table (rows_of table) (need_of table)
  passes = passed_gives table (rows_of table) (need_of table) (table-passes table inv.ready.right)

  pub spans-found : (row : ℕ) (known : row < rows_of table) → spans_found table s.store s.found row ≡ (inv.follows row known).spans
  spans-found row known =
      let range : InRange (numbers_at table row).a (numbers_at table row).b = (passes.good row known).limits in
      let S = (inv.follows row known).spans in
      laid-read (inv.follows row known).laid
      (row_stored (numbers_at table row) clock (last_time h) S (omega (arith, past, clock-within)) range
      (spanned_sound table row h clock inv.ordered range (rule_of (numbers_at table row)) S (inv.follows row known).spanned))
