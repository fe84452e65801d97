-- One kept true event keeps the invariant. By induction over the rows: each row's truth tells its formula at the event, from those of the lower rows, and
-- its spans go from the runs before to the runs after.
use mathlib.Core.Bool.{Bool, true, false, not, ◌&&◌}
use mathlib.Core.List.{List, [], ◌∷◌}
use mathlib.Core.Logic.{⊎_elim}
use mathlib.Core.Path.{◌≡◌, refl}
use Prim.Native.Nat.{ℕ, zero, suc, ◌≤◌, ◌<◌}
use native.Mathlib.Nat.{eq-or-lt_of_le, le_of_suc-le-suc}
use native.Mathlib.Omega.{arith}
use lib.ListN.{length}
use Rattle.meaning.specs.Interval.{End, end_of}
use Rattle.meaning.specs.History.{Event, History, last_time}
use Rattle.meaning.specs.Formula.{Formula, Holds}
use Rattle.meaning.specs.Computed.{within?}
use Rattle.meaning.specs.Heartbeat.{heartbeat?}
use Rattle.meaning.specs.Spans.{Span}
use Rattle.meaning.proofs.Tells.{Tells, tells_eqb, tells_not, tells_and, tells_or, tells_same}
use Rattle.meaning.proofs.FormulaLaws.{tells_within}
use Rattle.meaning.proofs.HistoryLaws.{NoLater, no_later_on}
use Rattle.meaning.proofs.RunsLaws.{runs-event, runs_tell}
use Rattle.kinds.specs.Kinds.{Rule, plain, stretch}
use Rattle.kinds.specs.declared.plain.Plain.{Plain}
use Rattle.kinds.specs.declared.stretch.Keep.{Keep}
use Rattle.kinds.specs.declared.stretch.Keep.TheVariants.{Unasked, WhileX, WhileY}
use Rattle.kinds.specs.declared.stretch.Stretch.{Stretch}
use Rattle.rules.specs.Rows.{rows_of, numbers_at, rule_of, kept_by, feeder, taken, fed_by}
use Rattle.rules.specs.Stretches.{need_of}
use Rattle.rules.specs.RowFormula.{since_of, formula, formula_of}
use Rattle.rules.specs.declared.numbers.Numbers.{Numbers}
use Rattle.rules.proofs.RowFitsLaws.{PlainNames, KeeperLower, Names}
use Rattle.rules.proofs.PassedLaws.{range_order, passed-formula}
use Rattle.times.specs.Times.{time_limit}
use Rattle.row_list.specs.Truths.{truth_at}
use Rattle.soundness.specs.Record.{was_seen, clock_of, event_time}
use Rattle.spans.proofs.CoverLaws.{covered-told}
use Rattle.monitor.proofs.EventLaws.{Room, length-store, spans-judged}
use Rattle.monitor.proofs.RisingLaws.{truth-told}
use Rattle.monitor.specs.Event.{Moment, arrival_of, spans_by, spans_after, truth_by, truth_of, truths_after, spans_judged, ring_now, spans_now, record_after, store_after}
use Rattle.promises.specs.Stream.{State}
use Rattle.promises.specs.Verdicts.{Says}
use Rattle.promises.specs.Spans.{KeeperHolds, FeederHolds}
use Rattle.promises.proofs.Invariant.{any_seen, Spanned, RowFollows, Invariant}
use Rattle.promises.proofs.RowsAfter.{row_laid}
use Rattle.promises.proofs.SoundAfter.{room_after}
use Rattle.promises.proofs.SoundIsKept.{sound-after, sized-after}
use Rattle.promises.proofs.InvariantLaws.{past, passes, spans-found}

-- Kind 5: the truth and the time found are those of the event before.
previous-told : (φ : Formula) (a : ℕ) (b : End) (e : Event) (h : History) (seen was : Bool) (last : ℕ)
    → seen ≡ any_seen h
    → last ≡ last_time h
    → Says h was φ
    → Tells (seen && was && within? a b last e.time) (Holds (Formula.previous φ a b) (e ∷ h))
unfolding Holds
previous-told φ a b e [] seen was last unseen time says =
    rw unseen (record { sound = λ none. absurd none; complete = λ holds. omega (arith, holds.0) })
previous-told φ a b e (d ∷ h) seen was last known time says =
    let before : Tells was (Holds φ (d ∷ h)) = record { sound = says.0; complete = says.1 } in
    rw (known, time)
    (tells_same
    (λ parts. (omega arith, parts.0, parts.1))
    (λ parts. (parts.1, parts.2))
    (tells_and before (tells_within a b d.time e.time)))

-- One row at an event, from the truths of the lower rows at it and at the event before.
module _ (m : Moment) (h : History) (of : ℕ → Formula) (r : ℕ) (row : Numbers) (truths : List ℕ) where
  abbrev event : Event
  event = record { time = m.time; mask = m.mask }

  record Lower : Type 0 where
    seen : was_seen m.found ≡ any_seen h
    last : event_time m.found ≡ last_time h
    before : (x : ℕ) → x < r → Says h (truth_at m.found.truths x) (of x)
    at : (x : ℕ) → x < r → Tells (truth_at truths x) (Holds (of x) (event ∷ h))

  plain-told : (says : Plain) (after : List Span)
      → Lower
      → PlainNames r row says
      → Tells (truth_by (arrival_of m) truths after row (plain says)) (Holds (formula of row (plain says)) (event ∷ h))
  unfolding Holds
  plain-told Plain.Truth after lower names = record { sound = λ _. tt; complete = λ _. tt }
  plain-told Plain.Bit after lower names = tells_eqb _ 1
  plain-told Plain.Negation after lower names = tells_not (lower.at row.x names)
  plain-told Plain.Both after lower names = tells_and (lower.at row.x names.0) (lower.at row.y names.1)
  plain-told Plain.Either after lower names = tells_or (lower.at row.x names.0) (lower.at row.y names.1)
  plain-told Plain.Previous after lower names =
      previous-told (of row.x) row.a (end_of row.b) event h (was_seen m.found) (truth_at m.found.truths row.x) (event_time m.found)
      lower.seen lower.last (lower.before row.x names)

  -- What the columns of a stretch pick of the truths tells what they pick of the formulas.
  kept-told : (keep : Keep) → Lower → KeeperLower r row keep
      → Tells (kept_by true (truth_at truths) row keep) (Holds (kept_by Formula.truth of row keep) (event ∷ h))
  unfolding Holds
  kept-told Unasked lower names = record { sound = λ _. tt; complete = λ _. tt }
  kept-told WhileX lower names = lower.at row.x names
  kept-told WhileY lower names = lower.at row.y names

  taken-told : (straight : Bool) (test : Bool) (φ : Formula)
      → Tells test (Holds φ (event ∷ h))
      → Tells (taken not straight test) (Holds (taken Formula.negation straight φ) (event ∷ h))
  unfolding Holds
  taken-told true test φ told = told
  taken-told false test φ told = tells_not told

  fed-told : (columns : Stretch) → Lower → feeder columns.feed row < r
      → Tells (fed_by not (truth_at truths) row columns) (Holds (fed_by Formula.negation of row columns) (event ∷ h))
  fed-told columns lower below = taken-told columns.when _ _ (lower.at (feeder columns.feed row) below)

-- A true event not before the clock and within the limit, where the invariant holds.
module _ {table : List ℕ} {h : History} {clock : ℕ} {s : State} (inv : Invariant table h clock s) (time mask : ℕ)
    (later : clock ≤ time) (within : time ≤ time_limit) (no-beat : heartbeat? mask ≡ false) where
  abbrev m : Moment
  m = record { table = table; store = s.store; found = s.found; time = time; mask = mask }

  abbrev longer : History
  longer = record { time = time; mask = mask } ∷ h

  abbrev RowTold : ℕ → Type 0
  RowTold row = Tells (truth_of m row (truths_after m row)) (Holds (formula_of table row) longer)

  before_now : NoLater time h
  before_now = no_later_on (last_time h) time h (omega (arith, past inv)) inv.ordered

  longer_ordered : NoLater time longer
  unfolding NoLater
  longer_ordered = (omega arith, before_now)

  -- What the truths after the rows below n tell.
  truths-told : (n : ℕ)
      → n ≤ rows_of table
      → ((row : ℕ) → row < n → RowTold row)
      → (row : ℕ)
      → row < n
      → Tells (truth_at (truths_after m n) row) (Holds (formula_of table row) longer)
  truths-told n few told row below =
      let least : rows_of table ≤ length s.found.truths = omega (arith, inv.sized.truths, (passes inv).few-rows) in
      rw (truth-told m n row below (omega arith)) (told row below)

  module _ (row : ℕ) (known : row < rows_of table) (told : (x : ℕ) → x < row → RowTold x) where
    abbrev numbers : Numbers
    numbers = numbers_at table row

    lower : Lower m h (formula_of table) row numbers (truths_after m row)
    lower =
        record {
          seen = inv.seen;
          last = inv.event;
          before = λ x below. (inv.follows x (omega arith)).says;
          at = truths-told row (omega arith) told;
        }

    spans-by : (rule : Rule) (S : List Span)
        → Names row numbers rule
        → Spanned table row h clock rule S
        → Spanned table row longer time rule (spans_by time (truths_after m row) S numbers rule)
    spans-by (plain says) S names spanned = refl
    spans-by (stretch columns) S names spanned =
        runs-event (KeeperHolds table row columns) (FeederHolds table row columns) numbers.a (end_of numbers.b)
        (range_order numbers.a numbers.b ((passes inv).good row known).limits)
        (record { time = time; mask = mask }) h before_now
        (kept_by true (truth_at (truths_after m row)) numbers columns.keep) (fed_by not (truth_at (truths_after m row)) numbers columns) clock S
        (kept-told m h (formula_of table) row numbers (truths_after m row) columns.keep lower names.0)
        (fed-told m h (formula_of table) row numbers (truths_after m row) columns lower names.1) later spanned

    truth-by : (rule : Rule) (after : List Span)
        → Names row numbers rule
        → Spanned table row longer time rule after
        → Tells (truth_by (arrival_of m) (truths_after m row) after numbers rule) (Holds (formula (formula_of table) numbers rule) longer)
    truth-by (plain says) after names spanned = plain-told m h (formula_of table) row numbers (truths_after m row) says after lower names
    truth-by (stretch columns) after names spanned =
        let means =
        runs_tell (kept_by Formula.truth (formula_of table) numbers columns.keep) (fed_by Formula.negation (formula_of table) numbers columns)
        numbers.a (end_of numbers.b) longer after spanned
        in
        taken-told m h (formula_of table) row numbers (truths_after m row) columns.inside _ (since_of (formula_of table) numbers columns)
        (tells_same means.0 means.1 (covered-told time after))

    spans-follow : Spanned table row longer time (rule_of numbers) (spans_judged m row)
    unfolding spans_after
    spans-follow =
        rw (spans-found inv row known)
        (spans-by (rule_of numbers) (inv.follows row known).spans ((passes inv).good row known).names (inv.follows row known).spanned)

    truth-follows : RowTold row
    unfolding truth_of
    truth-follows =
        rw (passed-formula table (rows_of table) (need_of table) row (passes inv) known)
        (truth-by (rule_of numbers) (spans_judged m row) ((passes inv).good row known).names spans-follow)

  rows_told : (n : ℕ) → n ≤ rows_of table → (row : ℕ) → row < n → RowTold row
  rows_told zero few row below = absurd (omega arith)
  rows_told (suc n) few row below =
      let before : (x : ℕ) → x < n → RowTold x = rows_told n (omega arith) in
      ⊎_elim
      (λ e. rw e (truth-follows n (omega arith) before))
      (λ lower. before row lower)
      (eq-or-lt_of_le (le_of_suc-le-suc below))

  spans-told : (row : ℕ) → row < rows_of table → Spanned table row longer time (rule_of (numbers_at table row)) (spans_judged m row)
  spans-told row known = spans-follow row known (rows_told row (omega arith))

  risen : clock_of s.found ≤ time
  risen = omega (arith, inv.time)

  spans_fit : Room table (ring_now m) (rows_of table)
  spans_fit = room_after m inv.ready inv.sound within risen

  abbrev pub state_after : State
  state_after = record { found = record_after m; store = store_after m }

  row_follows : (row : ℕ) → row < rows_of table → RowFollows table row longer time state_after
  unfolding record_after
  row_follows row known =
      let counts : row < length s.found.counts = omega (arith, inv.sized.counts, (passes inv).few-rows) in
      let firsts : row < length s.found.firsts = omega (arith, inv.sized.firsts, (passes inv).few-rows) in
      let told : Tells (truth_at (truths_after m (rows_of table)) row) (Holds (formula_of table row) longer) =
      truths-told (rows_of table) (omega arith) (rows_told (rows_of table) (omega arith)) row known
      in
      record {
        spans = spans_now m row;
        spanned = rw (spans-judged m row no-beat) (spans-told row known);
        laid = row_laid m row known counts firsts spans_fit;
        says = rw no-beat (told.sound, told.complete);
      }

  pub event-kept : Invariant table longer time state_after
  unfolding record_after
  event-kept =
      record {
        ordered = longer_ordered;
        event = rw no-beat;
        time = refl;
        seen = rw no-beat;
        ready = rw (length-store table (ring_now m) s.store (rows_of table) spans_fit inv.ready.room) inv.ready;
        sized = sized-after m inv.sized;
        sound = sound-after m inv.ready inv.sound risen within inv.sized;
        follows = row_follows;
      }
