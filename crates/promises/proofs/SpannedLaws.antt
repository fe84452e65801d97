-- The spans that a row should hold are sound and have room in its stretch.
use mathlib.Core.List.{List}
use mathlib.Core.Path.{◌≡◌, ap}
use Prim.Native.Nat.{ℕ, ◌+◌, ◌≤◌, max}
use native.Mathlib.Omega.{arith}
use lib.ListN.{length}
use Rattle.meaning.specs.Interval.{end_of}
use Rattle.meaning.specs.History.{History, last_time}
use Rattle.meaning.specs.Spans.{Span}
use Rattle.meaning.proofs.HistoryLaws.{NoLater}
use Rattle.meaning.proofs.SoundLaws.{none-sound, runs-sound}
use Rattle.meaning.proofs.FigureLaws.{figure_is_enough}
use Rattle.kinds.specs.Kinds.{Rule, plain, stretch}
use Rattle.rules.specs.Rows.{numbers_at}
use Rattle.rules.specs.Stretches.{spans_said}
use Rattle.rules.proofs.PassedLaws.{InRange, range_order}
use Rattle.promises.specs.Conditions.{RowSound}
use Rattle.promises.specs.Spans.{KeeperHolds, FeederHolds}
use Rattle.promises.proofs.Invariant.{Spanned}

module _ (table : List ℕ) (row : ℕ) (h : History) (clock : ℕ) where
  pub spanned_sound : NoLater (last_time h) h
      → InRange (numbers_at table row).a (numbers_at table row).b
      → (rule : Rule) (S : List Span)
      → Spanned table row h clock rule S
      → RowSound (numbers_at table row) clock (last_time h) S
  spanned_sound ordered range (plain says) S spanned = rw spanned (none-sound _ _ _ _)
  spanned_sound ordered range (stretch columns) S spanned =
      let a = (numbers_at table row).a in
      let b = end_of (numbers_at table row).b in
      runs-sound (KeeperHolds table row columns) (FeederHolds table row columns) a b h clock (last_time h) S
      (range_order a (numbers_at table row).b range) ordered spanned

  pub spanned_enough : NoLater (last_time h) h
      → last_time h ≤ clock
      → InRange (numbers_at table row).a (numbers_at table row).b
      → (rule : Rule) (S : List Span)
      → Spanned table row h clock rule S
      → length S ≤ spans_said rule (numbers_at table row)
  spanned_enough ordered past range (plain says) S spanned = let empty : length S ≡ 0 = ap length spanned in omega arith
  spanned_enough ordered past range (stretch columns) S spanned =
      let a = (numbers_at table row).a in
      figure_is_enough clock (max clock (last_time h + a)) (last_time h) a (end_of (numbers_at table row).b) S past
      (spanned_sound ordered range (stretch columns) S spanned)
