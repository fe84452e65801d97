-- The runs of a history: there is only one such list, the row is true where they cover the present, and one event, or only time, takes
-- the runs before to the runs after.
use mathlib.Core.Bool.{Bool, true, false}
use mathlib.Core.List.{List, [], ◌∷◌}
use mathlib.Core.Logic.{◌↔◌, inl, inr, ⊎_elim}
use mathlib.Core.Path.{◌≡◌}
use Prim.Native.Nat.{ℕ, ◌+◌, ◌≤◌}
use native.Mathlib.Omega.{arith}
use Rattle.meaning.specs.Interval.{End, up_to, no_end, ◌≤End◌, ◌+End◌}
use Rattle.meaning.specs.History.{Event, History, last_time}
use Rattle.meaning.specs.Formula.{Formula, since, Reached, Holds}
use Rattle.meaning.specs.Spans.{Span, In, Rising, reached_from, clip, join, update}
use Rattle.meaning.specs.Runs.{Runs}
use Rattle.meaning.proofs.Tells.{Tells}
use Rattle.meaning.proofs.FormulaLaws.{reached_later, reached_at_once, reached-before, reached_never}
use Rattle.meaning.proofs.HistoryLaws.{NoLater}
use Rattle.meaning.proofs.SpansLaws.{clip_in_lem, clip-rising, Under, join_in, join-rising, rising-known}
use Rattle.meaning.proofs.SoundLaws.{runs-sound, sound_under}

-- There is only one list of runs.
pub runs-only : (x y : History → Type 0) (a : ℕ) (b : End) (h : History) (t : ℕ) (S S' : List Span)
    → Runs x y a b h t S
    → Runs x y a b h t S'
    → S ≡ S'
runs-only x y a b h t S S' runs runs' =
    rising-known t t S S' runs.rising runs'.rising
    (λ u inside. (runs'.exact u).1 ((runs.exact u).0 inside))
    (λ u inside. (runs.exact u).1 ((runs'.exact u).0 inside))

-- "The row is true at t exactly when t lies in a span."
pub runs_tell : (x y : Formula) (a : ℕ) (b : End) (h : History) (S : List Span)
    → Runs (Holds x) (Holds y) a b h (last_time h) S
    → In (last_time h) S ↔ Holds (since x y a b) h
unfolding Holds
runs_tell x y a b h S runs =
    (λ inside. ((runs.exact (last_time h)).0 inside).1, λ holds. (runs.exact (last_time h)).1 (omega arith, holds))

-- Before the first event there are no runs.
pub runs_none : (x y : History → Type 0) (a : ℕ) (b : End) (t : ℕ) → Runs x y a b [] t []
unfolding In Rising
runs_none x y a b t =
    record { rising = tt; exact = λ u. (λ none. absurd none, λ both. absurd (reached_never x y a b u both.1)) }

-- Only the time moves on: the runs are clipped.
pub runs_later : (x y : History → Type 0) (a : ℕ) (b : End) (h : History) (t t' : ℕ) (S : List Span)
    → t ≤ t'
    → Runs x y a b h t S
    → Runs x y a b h t' (clip t' S)
runs_later x y a b h t t' S later runs =
    record {
      rising = clip-rising t t' S runs.rising;
      exact = λ u. (
        λ inside.
            let still : (t' ≤ u) × In u S = (clip_in_lem t t' S u runs.rising).0 inside in
            (still.0, ((runs.exact u).0 still.1).1),
        λ both. (clip_in_lem t t' S u runs.rising).1 (both.0, (runs.exact u).1 (omega arith, both.1)),
      );
    }

-- One event: clip, drop all if x is false, join if y is true.
module _ (x y : History → Type 0) (a : ℕ) (b : End) (order : a ≤End b) (e : Event) (h : History) (none : NoLater e.time h) where
  -- The runs of the events before, as far as x is true now.
  record Kept (S : List Span) : Type 0 where
    rising : Rising e.time S
    under : Under (e.time + a) (e.time +End b) S
    exact : (u : ℕ) → In u S ↔ ((e.time ≤ u) × x (e ∷ h) × Reached x y a b h u)

  kept_true : (t : ℕ) (S : List Span) → t ≤ e.time → x (e ∷ h) → Runs x y a b h t S → Kept (clip e.time S)
  kept_true t S later now before =
      let runs : Runs x y a b h e.time (clip e.time S) = runs_later x y a b h t e.time S later before in
      record {
        rising = runs.rising;
        under = sound_under e.time a b (clip e.time S) order (runs-sound x y a b h e.time e.time (clip e.time S) order none runs);
        exact = λ u. (
          λ inside. (((runs.exact u).0 inside).0, now, ((runs.exact u).0 inside).1),
          λ all. (runs.exact u).1 (all.0, all.2),
        );
      }

  kept_false : ¬ x (e ∷ h) → Kept []
  unfolding In Rising Under
  kept_false never = record { rising = tt; under = tt; exact = λ u. (λ inside. absurd inside, λ all. absurd (never all.1)) }

  fed_true : (S : List Span) → y (e ∷ h) → Kept S → Runs x y a b (e ∷ h) e.time (join (reached_from e.time a b) S)
  fed_true S now kept =
      let first = e.time + a in
      let last = e.time +End b in
      record {
        rising = join-rising e.time first last S (omega arith) (within-reach b order) kept.under kept.rising;
        exact = λ u. (
          λ inside.
              ⊎_elim
              (λ old.
              let was : (e.time ≤ u) × x (e ∷ h) × Reached x y a b h u = (kept.exact u).0 old in
              (was.0, reached-before x y a b e h u was.1 was.2))
              (λ new. (omega arith, reached_at_once x y a b e h u now (record { from = new.0; to = new.1 })))
              ((join_in first last S u kept.under).0 inside),
          λ both.
              (join_in first last S u kept.under).1
              (⊎_elim
              (λ new. inr (new.1.from, new.1.to))
              (λ old. inl ((kept.exact u).1 (both.0, old.0, old.1)))
              (reached_later x y a b e h u both.1)),
        );
      }
    where
      within-reach : (end : End) → a ≤End end → (e.time + a) ≤End (e.time +End end)
      within-reach (up_to last) within = omega arith
      within-reach no_end within = tt

  fed_false : (S : List Span) → ¬ y (e ∷ h) → Kept S → Runs x y a b (e ∷ h) e.time S
  fed_false S never kept =
      record {
        rising = kept.rising;
        exact = λ u. (
          λ inside.
              let was : (e.time ≤ u) × x (e ∷ h) × Reached x y a b h u = (kept.exact u).0 inside in
              (was.0, reached-before x y a b e h u was.1 was.2),
          λ both.
              ⊎_elim
              (λ new. absurd (never new.0))
              (λ old. (kept.exact u).1 (both.0, old.0, old.1))
              (reached_later x y a b e h u both.1),
        );
      }

  -- One event takes the runs of a history to the runs of the history with that event.
  pub runs-event : (x? y? : Bool) (t : ℕ) (S : List Span)
      → Tells x? (x (e ∷ h))
      → Tells y? (y (e ∷ h))
      → t ≤ e.time
      → Runs x y a b h t S
      → Runs x y a b (e ∷ h) e.time (update x? y? e.time (reached_from e.time a b) S)
  unfolding update
  runs-event true true t S keep feed later before =
      fed_true (clip e.time S) (feed.sound tt) (kept_true t S later (keep.sound tt) before)
  runs-event true false t S keep feed later before =
      fed_false (clip e.time S) feed.complete (kept_true t S later (keep.sound tt) before)
  runs-event false true t S keep feed later before = fed_true [] (feed.sound tt) (kept_false keep.complete)
  runs-event false false t S keep feed later before = fed_false [] feed.complete (kept_false keep.complete)
