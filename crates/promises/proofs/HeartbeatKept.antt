-- One kept heartbeat keeps the invariant, of the same history: each row's spans go from the runs at the clock to the runs at its time, and its truth
-- stays.
use mathlib.Core.Bool.{true}
use mathlib.Core.List.{List}
use mathlib.Core.Path.{◌≡◌, refl}
use Prim.Native.Nat.{ℕ, ◌≤◌, ◌<◌}
use native.Mathlib.Omega.{arith}
use lib.ListN.{length}
use Rattle.meaning.specs.Interval.{end_of}
use Rattle.meaning.specs.History.{History}
use Rattle.meaning.specs.Heartbeat.{heartbeat?}
use Rattle.meaning.specs.Spans.{Span, clip}
use Rattle.meaning.proofs.RunsLaws.{runs_later}
use Rattle.kinds.specs.Kinds.{Rule, plain, stretch}
use Rattle.rules.specs.Rows.{rows_of, numbers_at, rule_of}
use Rattle.times.specs.Times.{time_limit}
use Rattle.soundness.specs.Record.{clock_of}
use Rattle.monitor.specs.Event.{Moment, ring_now, spans_now, record_after, store_after}
use Rattle.monitor.proofs.EventLaws.{Room, length-store, spans_clipped_lem}
use Rattle.promises.specs.Stream.{State}
use Rattle.promises.specs.Spans.{KeeperHolds, FeederHolds}
use Rattle.promises.proofs.Invariant.{Spanned, RowFollows, Invariant}
use Rattle.promises.proofs.RowsAfter.{row_laid}
use Rattle.promises.proofs.SoundAfter.{room_after}
use Rattle.promises.proofs.SoundIsKept.{sound-after, sized-after}
use Rattle.promises.proofs.InvariantLaws.{passes, spans-found}

-- Time alone takes a row's spans on.
spanned_later : (table : List ℕ) (row : ℕ) (h : History) (clock time : ℕ) → clock ≤ time
    → (rule : Rule) (S : List Span)
    → Spanned table row h clock rule S
    → Spanned table row h time rule (clip time S)
unfolding clip
spanned_later table row h clock time later (plain says) S spanned = rw spanned
spanned_later table row h clock time later (stretch columns) S spanned =
    runs_later (KeeperHolds table row columns) (FeederHolds table row columns) (numbers_at table row).a (end_of (numbers_at table row).b) h clock time S
    later spanned

module _ {table : List ℕ} {h : History} {clock : ℕ} {s : State} (inv : Invariant table h clock s) (time mask : ℕ)
    (later : clock ≤ time) (within : time ≤ time_limit) (beat : heartbeat? mask ≡ true) where
  abbrev m : Moment
  m = record { table = table; store = s.store; found = s.found; time = time; mask = mask }

  risen : clock_of s.found ≤ time
  risen = omega (arith, inv.time)

  spans_fit : Room table (ring_now m) (rows_of table)
  spans_fit = room_after m inv.ready inv.sound within risen

  abbrev state_after : State
  state_after = record { found = record_after m; store = store_after m }

  row_follows : (row : ℕ) → row < rows_of table → RowFollows table row h time state_after
  unfolding record_after
  row_follows row known =
      let counts : row < length s.found.counts = omega (arith, inv.sized.counts, (passes inv).few-rows) in
      let firsts : row < length s.found.firsts = omega (arith, inv.sized.firsts, (passes inv).few-rows) in
      let rule = rule_of (numbers_at table row) in
      record {
        spans = spans_now m row;
        spanned =
            rw (spans_clipped_lem m row beat, spans-found inv row known)
            (spanned_later table row h clock time later rule (inv.follows row known).spans (inv.follows row known).spanned);
        laid = row_laid m row known counts firsts spans_fit;
        says = rw beat (inv.follows row known).says;
      }

  pub heartbeat-kept : Invariant table h time state_after
  unfolding record_after
  heartbeat-kept =
      record {
        ordered = inv.ordered;
        event = rw beat inv.event;
        time = refl;
        seen = rw beat inv.seen;
        ready = rw (length-store table (ring_now m) s.store (rows_of table) spans_fit inv.ready.room) inv.ready;
        sized = sized-after m inv.sized;
        sound = sound-after m inv.ready inv.sound risen within inv.sized;
        follows = row_follows;
      }
