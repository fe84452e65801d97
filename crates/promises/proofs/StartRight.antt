-- The invariant holds after a good start: the words of the need are 0, so no row holds a span, and before the first event there are no runs.
use mathlib.Core.Bool.{false}
use mathlib.Core.List.{List, [], ◌++◌, append_assoc, append-nil}
use mathlib.Core.Logic.{⊎_elim}
use mathlib.Core.Path.{◌≡◌, refl}
use Prim.Native.Nat.{ℕ, ◌+◌, ◌*◌, ◌-◌, ◌≤◌, ◌<◌}
use native.Mathlib.Omega.{arith}
use lib.ListN.{length, get_or, take, drop, replicate, length-append, length-drop, length-replicate, get_or-replicate}
use lib.ListN.{replicate-append-replicate, get_or-eq_default}
use lib.Seq.{take_at, drop_at}
use Rattle.meaning.proofs.HistoryLaws.{NoLater}
use Rattle.meaning.proofs.SpansLaws.{le_or_lt}
use Rattle.meaning.proofs.RunsLaws.{runs_none}
use Rattle.meaning.proofs.SoundLaws.{none-sound}
use Rattle.kinds.specs.Kinds.{Rule, plain, stretch}
use Rattle.rules.specs.Limits.{row_limit}
use Rattle.rules.specs.Rows.{rows_of, numbers_at, rule_of}
use Rattle.rules.specs.Stretches.{width, offset, need_of}
use Rattle.rules.proofs.StretchesLaws.{stretch-before}
use Rattle.spans.specs.Layout.{round_from, words_of, packed, Laid}
use Rattle.row_list.specs.Truths.{truth_at}
use Rattle.soundness.specs.Record.{held_at, stretch_at, nothing_seen}
use Rattle.soundness.specs.Setup.{Setup}
use Rattle.monitor.specs.Start.{start_of}
use Rattle.promises.specs.Stream.{State, Starts, started}
use Rattle.promises.specs.Spans.{KeeperHolds, FeederHolds}
use Rattle.promises.proofs.Invariant.{Spanned, Invariant}
use Rattle.promises.specs.Conditions.{Ready, RecordRight}
use Rattle.promises.proofs.TableRefusals.{room_of, start-passes, start_decided}
use Rattle.promises.proofs.Refusing.{refused_exactly}

abbrev zeros : ℕ → List ℕ
zeros n = replicate n 0

-- Nothing but 0 is read from zeros, and so no truth.
zero_at : (n row : ℕ) → get_or (zeros n) row 0 ≡ 0
zero_at n row =
    ⊎_elim
    (λ past. get_or-eq_default (zeros n) 0 (rw (length-replicate {A = ℕ} n 0) past))
    (λ inside. get_or-replicate {A = ℕ} n row 0 0 inside)
    (le_or_lt n row)

false_at : (n row : ℕ) → truth_at (zeros n) row ≡ false
false_at n row = rw (zero_at n row) refl

-- A part of zeros is zeros.
zeros_part : (from size n : ℕ) (rest : List ℕ) → from + size ≤ n → take size (drop from (zeros n ++ rest)) ≡ zeros size
zeros_part from size n rest inside =
    let after = n - (from + size) in
    let all : n ≡ from + (size + after) = omega arith in
    let parts : zeros n ≡ zeros from ++ (zeros size ++ zeros after) =
    rw (replicate-append-replicate {A = ℕ} size after 0, replicate-append-replicate {A = ℕ} from (size + after) 0, ← all)
    in
    rw (
      parts,
      append_assoc (zeros from) (zeros size ++ zeros after) rest,
      drop_at (zeros from) ((zeros size ++ zeros after) ++ rest) from (length-replicate from 0),
      append_assoc (zeros size) (zeros after) rest,
      take_at (zeros size) (zeros after ++ rest) size (length-replicate size 0),
    )

-- Where a start is good the table and the list are right and the store has room.
pub start_ready : (setup : Setup) (store : List ℕ) → Starts setup store → Ready setup (length store)
start_ready setup store starts =
    ⊎_elim
    (λ ready. ready)
    (λ wrong.
    let refuses = (refused_exactly.start setup store wrong.0).1 wrong.1 in
    let clash : ◌≡◌ {A = ℕ} 0 1 = cc in
    absurd (omega arith))
    (start_decided setup (length store))

module _ (setup : Setup) (store : List ℕ) (starts : Starts setup store) where
  abbrev table : List ℕ
  table = setup.table

  abbrev fresh : State
  fresh = record { found = nothing_seen (rows_of table); store = zeros (need_of table) ++ drop (need_of table) store }

  started-fresh : started setup store ≡ fresh
  unfolding start_of
  started-fresh = rw (start-passes setup (length store) (start_ready setup store starts))

  fresh_length : length fresh.store ≡ length store
  fresh_length =
      let room : need_of table ≤ length store = (start_ready setup store starts).room in
      simp (length-append, length-replicate, length-drop) (omega arith)

  -- No runs before the first event.
  none_spanned : (row : ℕ) (rule : Rule) → Spanned table row [] 0 rule []
  none_spanned row (plain says) = refl
  none_spanned row (stretch columns) = runs_none (KeeperHolds table row columns) (FeederHolds table row columns) _ _ 0

  stretch-fresh : (row : ℕ) → row < rows_of table → round_from 0 (stretch_at table fresh.store row) ≡ packed (width (numbers_at table row)) []
  unfolding stretch_at packed words_of round_from
  stretch-fresh row known =
      let inside : offset table row + width (numbers_at table row) ≤ need_of table = stretch-before table row (rows_of table) known in
      let all : width (numbers_at table row) - 2 * 0 ≡ width (numbers_at table row) = omega arith in
      rw (append-nil, all) (zeros_part (offset table row) (width (numbers_at table row)) (need_of table) (drop (need_of table) store) inside)

  row_laid : (row : ℕ) → row < rows_of table → Laid (width (numbers_at table row)) (stretch_at table fresh.store row) (held_at fresh.found row) []
  unfolding nothing_seen
  row_laid row known =
      let start : get_or fresh.found.firsts row 0 ≡ 0 = zero_at row_limit row in
      record {
        written = rw start (stretch-fresh row known);
        counted = zero_at row_limit row;
        unplaced = λ _. start;
        inside = λ some. absurd (omega (arith, zero_at row_limit row));
      }

  fresh-sound : RecordRight table fresh.store fresh.found
  unfolding nothing_seen
  fresh-sound =
      record {
        rows = refl;
        past = λ row past inside. false_at row_limit row;
        others = λ row inside other. zero_at row_limit row;
        unplaced = λ row inside other. zero_at row_limit row;
        within = λ row inside since. rw (zero_at row_limit row) (omega arith);
        unseen_time = λ unseen. refl;
        unseen_rows = λ unseen row inside. (false_at row_limit row, zero_at row_limit row);
        order = omega arith;
        limit = omega arith;
        seen_byte = omega arith;
        truth-bytes = λ row inside. omega (arith, zero_at row_limit row);
        stretches = λ row known since. record { spans = []; laid = row_laid row known; sound = none-sound _ _ _ _ };
      }

  start-fresh : Invariant table [] 0 fresh
  unfolding nothing_seen NoLater
  start-fresh =
      record {
        ordered = tt;
        event = refl;
        time = refl;
        seen = refl;
        ready = rw fresh_length (room_of (start_ready setup store starts));
        sized =
            record {
              truths = length-replicate {A = ℕ} row_limit 0;
              counts = length-replicate {A = ℕ} row_limit 0;
              firsts = length-replicate {A = ℕ} row_limit 0;
            };
        sound = fresh-sound;
        follows = λ row known.
            record {
              spans = [];
              spanned = none_spanned row (rule_of (numbers_at table row));
              laid = row_laid row known;
              says = false_at row_limit row;
            };
      }

  pub start_right : Invariant table [] 0 (started setup store)
  start_right = rw started-fresh start-fresh
