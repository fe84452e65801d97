-- Demand 3, "No smaller figure serves": once p with the limits a and b, by a row of each kind, on a store of exactly the need, and a pulse of p whenever
-- the former's reach has just ended and a gap follows, as in `filling` of the meaning.
use mathlib.Core.Bool.{true}
use mathlib.Core.List.{List, [], ◌∷◌, ◌++◌}
use mathlib.Core.Logic.{◌↔◌, inl, inr, ⊎_elim}
use mathlib.Core.Path.{◌≡◌, refl, ap, ◌∙◌}
use Prim.Native.Nat.{ℕ, zero, suc, ◌+◌, ◌-◌, ◌/◌, ◌≤◌, ◌<◌}
use native.Mathlib.Nat.{div-mul-le_self}
use native.Mathlib.Omega.{arith}
use lib.ListN.{length, get_or, drop, length-append}
use borrow.Author.Tests.{le-leb, le-ltb}
use Rattle.meaning.specs.Interval.{End, up_to, no_end, end_of}
use Rattle.meaning.specs.History.{History}
use Rattle.meaning.specs.Heartbeat.{true_events}
use Rattle.meaning.specs.Formula.{truth, bit, negation, Holds, Reached}
use Rattle.meaning.specs.Spans.{Span}
use Rattle.meaning.specs.Runs.{Runs}
use Rattle.meaning.specs.Figure.{figure}
use Rattle.meaning.proofs.Tells.{tells_decided, told_true}
use Rattle.meaning.proofs.FormulaLaws.{holds_told}
use Rattle.meaning.proofs.RunsLaws.{runs-only}
use Rattle.meaning.proofs.FigureLaws.{pulse_time, pulses, pulse_time_lem, pulses_last, filling, figure_is_filled}
use Rattle.kinds.specs.Kinds.{stretch, x_since_y, once_x, always_x, kind_at}
use Rattle.kinds.specs.declared.stretch.Stretch.{Stretch}
use Rattle.rules.specs.Rows.{rows_of, numbers_at, rule_of}
use Rattle.rules.specs.Stretches.{need_of}
use Rattle.rules.specs.RowFormula.{below, formula_of}
use Rattle.rules.specs.Table.{length_passes, row_passes, limits_pass, fault_of, first_fault, passed, check_of}
use Rattle.rules.proofs.PassedLaws.{range_cases, range_order}
use Rattle.times.specs.Times.{time_limit}
use Rattle.dead_rows.specs.DeadRows.{reaches, reached?, lowest_not, lowest_dead}
use Rattle.soundness.specs.Setup.{Setup, setup_of}
use Rattle.soundness.specs.Ready.{ready_of}
use Rattle.monitor.specs.Start.{start_of}
use Rattle.monitor.specs.Step.{Call, event}
use Rattle.promises.specs.Stream.{Starts, kept, state, history, clock}
use Rattle.promises.specs.Conditions.{LimitsRight, SinceKind}
use Rattle.promises.specs.Spans.{RowRuns}
use Rattle.promises.specs.Room.{pulses_at, AllKept, Filled, RunsFill, FigureIsReached}
use Rattle.promises.proofs.StreamLaws.{kept_append}
use Rattle.promises.proofs.TableTold.{limits_told}
use Rattle.promises.proofs.ListTold.{list-told, alone-right}
use Rattle.promises.proofs.StretchTold.{in_range_of}
use Rattle.promises.proofs.Spans.{spans_are_the_runs}

-- Runs fed at the same events are the same.
reached_same : (x y z : History → Type 0) (a : ℕ) (b : End) (h : History) (u : ℕ)
    → ((h : History) → y h → z h)
    → Reached x y a b h u
    → Reached x z a b h u
reached_same x y z a b h u feeds reached =
    record {
      j = reached.j;
      known = reached.known;
      fed = feeds (drop reached.j h) reached.fed;
      apart = reached.apart;
      kept = reached.kept;
    }

runs_same : (x y z : History → Type 0) (a : ℕ) (b : End) (h : History) (t : ℕ) (S : List Span)
    → ((h : History) → y h ↔ z h)
    → Runs x y a b h t S
    → Runs x z a b h t S
runs_same x y z a b h t S same runs =
    record {
      rising = runs.rising;
      exact = λ u. (
        λ inside. (((runs.exact u).0 inside).0, reached_same x y z a b h u (λ h. (same h).0) ((runs.exact u).0 inside).1),
        λ reached. (runs.exact u).1 (reached.0, reached_same x z y a b h u (λ h. (same h).1) reached.1),
      );
    }

-- What is not false is true, for a bit is set or not.
not_not_p : (h : History) → Holds (negation (negation (bit 0))) h ↔ Holds (bit 0) h
unfolding Holds
not_not_p h = (
  λ not-not. ⊎_elim (λ set. set) (λ unset. absurd (not-not unset)) (tells_decided (holds_told (bit 0) h)),
  λ set unset. unset set,
)

-- The times of the pulses, the oldest first.
pulse_times : ℕ → ℕ → List ℕ
pulse_times apart zero = 0 ∷ []
pulse_times apart (suc n) = pulse_times apart n ++ (pulse_time apart (suc n) ∷ [])

filling_times : ℕ → End → List ℕ
filling_times a (up_to b) = pulse_times (b - a + 2) (b / (b - a + 2))
filling_times a no_end = pulse_times 0 0

abbrev filling_calls : ℕ → ℕ → List Call
filling_calls a b = pulses_at (filling_times a (end_of b))

pulses_append : (times : List ℕ) (time : ℕ) → pulses_at (times ++ (time ∷ [])) ≡ pulses_at times ++ (event time 1 ∷ [])
pulses_append [] time = refl
pulses_append (first ∷ times) time = ap (λ (calls : List Call). event first 1 ∷ calls) (pulses_append times time)

pulses_kept : (apart n : ℕ) → pulse_time apart n ≤ time_limit → kept [] (pulses_at (pulse_times apart n)) ≡ pulses apart n
unfolding pulse_times pulses pulse_time kept
pulses_kept apart zero within = refl
pulses_kept apart (suc n) within =
    rw (
      pulses_append (pulse_times apart n) (pulse_time apart n + apart),
      kept_append [] (pulses_at (pulse_times apart n)) (event (pulse_time apart n + apart) 1 ∷ []),
      pulses_kept apart n (omega arith),
      pulses_last apart n,
      le-leb (pulse_time apart n + apart) time_limit within,
      le-leb (pulse_time apart n) (pulse_time apart n + apart) (omega arith),
    )

pulses_length : (apart n : ℕ) → length (pulses apart n) ≡ length (pulses_at (pulse_times apart n))
unfolding pulse_times pulses
pulses_length apart zero = refl
pulses_length apart (suc n) =
    rw (pulses_append (pulse_times apart n) (pulse_time apart (suc n)), length-append) (omega (arith, pulses_length apart n))

filling_kept : (a b : ℕ) → LimitsRight a b → kept [] (filling_calls a b) ≡ filling a (end_of b)
unfolding filling_times filling
filling_kept a b limits =
    range_cases (λ end. kept [] (pulses_at (filling_times a end)) ≡ filling a end) a b (in_range_of limits)
    (pulses_kept 0 0 (omega (arith, pulse_time_lem 0 0)))
    (λ order most.
    let n = b / (b - a + 2) in
    pulses_kept (b - a + 2) n (omega (arith, pulse_time_lem (b - a + 2) n, div-mul-le_self b (b - a + 2))))

-- No pulse is a heartbeat.
pulses_true : (apart n : ℕ) → true_events (pulses apart n) ≡ pulses apart n
unfolding pulses true_events
pulses_true apart zero = refl
pulses_true apart (suc n) = ap (λ (h : History). record { time = pulse_time apart (suc n); mask = 1 } ∷ h) (pulses_true apart n)

filling_true : (a : ℕ) (end : End) → true_events (filling a end) ≡ filling a end
unfolding filling
filling_true a (up_to b) = pulses_true (b - a + 2) (b / (b - a + 2))
filling_true a no_end = pulses_true 0 0

filling_history : (a b : ℕ) → LimitsRight a b → history (filling_calls a b) ≡ filling a (end_of b)
filling_history a b limits = ap true_events (filling_kept a b limits) ∙ filling_true a (end_of b)

all-kept : (a b : ℕ) → LimitsRight a b → AllKept (filling_calls a b)
unfolding filling_times filling
all-kept a b limits = ap length (filling_history a b limits) ∙ go (end_of b)
  where
    go : (end : End) → length (filling a end) ≡ length (pulses_at (filling_times a end))
    go (up_to last) = pulses_length (last - a + 2) (last / (last - a + 2))
    go no_end = pulses_length 0 0

-- The runs after them are as many as the figure; and so is the row's count, for its spans are the runs, and there is only one list of runs.
runs_fill : (a b : ℕ) → LimitsRight a b → RunsFill a b
runs_fill a b limits =
    let (full, runs, many) = figure_is_filled a (end_of b) (range_order a b (in_range_of limits)) in
    record {
      times = filling_times a (end_of b);
      kept = all-kept a b limits;
      spans = full;
      runs = rw (filling_history a b limits, filling_kept a b limits) runs;
      many = many;
    }

-- A table with a row of the kind and the limits, whose runs are those of "once p".
module _
    (kind a b : ℕ) (limits : LimitsRight a b) (table : List ℕ) (row : ℕ) (columns : Stretch)
    (passes : check_of table ≡ passed (rows_of table) (need_of table))
    (reached : lowest_dead table (row ∷ []) (rows_of table) ≡ rows_of table)
    (rule : rule_of (numbers_at table row) ≡ stretch columns)
    (inside : row < rows_of table)
    (once-p : (h : History) (time : ℕ) (S : List Span)
    → RowRuns table row columns h time S
    → Runs (Holds truth) (Holds (bit 0)) a (end_of b) h time S)
  where
    -- The row alone is listed, and reaches the others.
    abbrev setup : Setup
    setup = setup_of table (row ∷ [])

    starts : (store : List ℕ) → length store ≡ need_of table → Starts setup store
    unfolding start_of ready_of
    starts store exactly =
        rw (
          passes,
          told_true (list-told table (row ∷ [])) (alone-right table row inside),
          reached,
          le-ltb (rows_of table) (rows_of table) (omega arith),
          exactly,
          le-leb (need_of table) (need_of table) (omega arith),
        )

    full : (store : List ℕ)
        → length store ≡ need_of table
        → get_or (state setup store (filling_calls a b)).found.counts row 0 ≡ figure a (end_of b)
    unfolding runs_fill
    full store exactly =
        let calls = filling_calls a b in
        let held = spans_are_the_runs setup store (starts store exactly) calls row columns inside rule in
        let all = runs_fill a b limits in
        held.laid.counted
        ∙ ap length
        (runs-only (Holds truth) (Holds (bit 0)) a (end_of b) (history calls) (clock calls) held.spans all.spans
        (once-p (history calls) (clock calls) held.spans held.runs) all.runs)
        ∙ all.many

    filled : (numbers_at table row).kind ≡ kind → (numbers_at table row).a ≡ a → (numbers_at table row).b ≡ b → Filled kind a b
    filled of_kind from to =
        record {
          table = table;
          list = row ∷ [];
          row = row;
          inside = inside;
          of_kind = of_kind;
          from = from;
          to = to;
          times = filling_times a (end_of b);
          kept = all-kept a b limits;
          starts = starts;
          full = full;
        }

-- Limits that are not used are right.
no_limits : limits_pass 0 0 ≡ true
no_limits = told_true (limits_told 0 0) (record { low = omega arith; high = inl (omega arith) })

-- A row with no number but its kind: 0 is "true", 1 is "p", which is bit 0, and 2 is "not row 0".
abbrev plain_row : ℕ → List ℕ
plain_row kind = kind ∷ 0 ∷ 0 ∷ 0 ∷ 0 ∷ []

-- Such a row for each kind: "true since p" after "p" and "true"; "once p" after "p"; "always not p" after "p" and "not p", whose x is false at the
-- events with p, which feed it.
filled_by_kind : (kind a b : ℕ) → SinceKind kind → LimitsRight a b → Filled kind a b
unfolding numbers_at kind_at formula_of below check_of length_passes first_fault fault_of row_passes lowest_not reached? reaches
filled_by_kind kind a b (inl six) limits = rw six
    (filled 6 a b limits (plain_row 1 ++ plain_row 0 ++ (6 ∷ 1 ∷ 0 ∷ a ∷ b ∷ [])) 2 x_since_y
    (rw (no_limits, told_true (limits_told a b) limits)) refl refl (omega arith) (λ h time S runs. runs) refl refl refl)
filled_by_kind kind a b (inr (inl seven)) limits = rw seven
    (filled 7 a b limits (plain_row 1 ++ (7 ∷ 0 ∷ 0 ∷ a ∷ b ∷ [])) 1 once_x
    (rw (no_limits, told_true (limits_told a b) limits)) refl refl (omega arith) (λ h time S runs. runs) refl refl refl)
filled_by_kind kind a b (inr (inr eight)) limits = rw eight
    (filled 8 a b limits (plain_row 1 ++ plain_row 2 ++ (8 ∷ 1 ∷ 0 ∷ a ∷ b ∷ [])) 2 always_x
    (rw (no_limits, told_true (limits_told a b) limits)) refl refl (omega arith)
    (λ h time S. runs_same _ _ _ a (end_of b) h time S not_not_p) refl refl refl)

pub figure_is_reached : FigureIsReached
figure_is_reached = record { rows = filled_by_kind; runs = runs_fill }
