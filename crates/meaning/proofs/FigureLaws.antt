-- The figure is enough for any sound list, and some history of one bit fills it, so that no smaller figure serves.
use mathlib.Core.Bool.{false, true}
use mathlib.Core.List.{List, [], ◌∷◌, ◌++◌, append_assoc}
use mathlib.Core.Path.{◌≡◌, refl, ap}
use Prim.Native.Nat.{ℕ, zero, suc, ◌+◌, ◌-◌, ◌*◌, ◌/◌, ◌≤◌, ◌<◌, max}
use native.Mathlib.Nat.{zero-add, suc-mul, le-div_iff_mul-le, div-mul-le_self}
use native.Mathlib.Numerals.{add-one}
use native.Mathlib.Omega.{arith}
use lib.ListN.{length, length-append}
use borrow.Author.Tests.{le-ltb, lt-leb}
use Rattle.meaning.specs.Interval.{End, up_to, no_end, ◌≤End◌, ◌+End◌}
use Rattle.meaning.specs.History.{Event, History, last_time}
use Rattle.meaning.specs.Formula.{truth, bit, Holds}
use Rattle.meaning.specs.Computed.{holds?}
use Rattle.meaning.specs.Spans.{Span, ◌to◌, reached_from, clip, touches, join, update}
use Rattle.meaning.specs.Runs.{Runs}
use Rattle.meaning.specs.Sound.{SoundFrom, SoundEndless, SoundSpans, length_of}
use Rattle.meaning.specs.Figure.{figure}
use Rattle.meaning.proofs.FormulaLaws.{holds_told}
use Rattle.meaning.proofs.HistoryLaws.{NoLater, no_later_on}
use Rattle.meaning.proofs.RunsLaws.{runs_none, runs-event}

-- Spans that all begin after the present take their length and a gap each.
fit_after : (from now latest long : ℕ) (S : List Span)
    → now < from
    → from ≤ latest + 2
    → SoundFrom from now latest long S
    → from + length S * (long + 2) ≤ latest + 2
unfolding SoundFrom
fit_after from now latest long [] after room sound = omega arith
fit_after from now latest long ((first to up_to last) ∷ S) after room sound =
    let whole : first + long ≤ last = sound.3 (omega arith) in
    let rest : last + 2 + length S * (long + 2) ≤ latest + 2 = fit_after (last + 2) now latest long S (omega arith) (omega arith) sound.4 in
    rw (suc-mul (length S) (long + 2)) (omega arith)
fit_after from now latest long ((first to no_end) ∷ S) after room sound = absurd sound

ended-enough : (now event a b : ℕ) (S : List Span) → event ≤ now → SoundFrom now now (event + b) (b - a) S → length S ≤ figure a (up_to b)
unfolding SoundFrom figure
ended-enough now event a b [] seen sound = omega arith
ended-enough now event a b ((first to up_to last) ∷ S) seen sound =
    let rest : last + 2 + length S * (b - a + 2) ≤ event + b + 2 =
    fit_after (last + 2) now (event + b) (b - a) S (omega arith) (omega arith) sound.4
    in
    let fits : length S * (b - a + 2) ≤ b = omega arith in
    let count : length S ≤ b / (b - a + 2) = (le-div_iff_mul-le {k = b - a + 2} {x = length S} {y = b} (omega arith)).1 fits in
    omega arith
ended-enough now event a b ((first to no_end) ∷ S) seen sound = absurd sound

-- Any list that meets document 01's conditions on a stretch has at most the figure's spans. The latest event may lie before the present.
pub figure_is_enough : (now latest_first event a : ℕ) (b : End) (S : List Span)
    → event ≤ now
    → SoundSpans now latest_first (event +End b) (length_of a b) S
    → length S ≤ figure a b
unfolding SoundSpans SoundEndless figure
figure_is_enough now latest_first event a (up_to b) S seen sound = ended-enough now event a b S seen sound
figure_is_enough now latest_first event a no_end [] seen sound = omega arith
figure_is_enough now latest_first event a no_end ((first to up_to last) ∷ S) seen sound = absurd sound
figure_is_enough now latest_first event a no_end ((first to no_end) ∷ S) seen sound =
    let alone : length S ≡ 0 = ap length sound.2 in omega arith

-- Pulses of one bit, `apart` from each other: p at 0, apart, 2 * apart and so on, n + 1 events in all.
unfoldable pub pulse_time : ℕ → ℕ → ℕ
pulse_time apart zero = 0
pulse_time apart (suc n) = pulse_time apart n + apart

unfoldable pub pulses : ℕ → ℕ → History
pulses apart zero = record { time = 0; mask = 1 } ∷ []
pulses apart (suc n) = record { time = pulse_time apart (suc n); mask = 1 } ∷ pulses apart n

pub pulse_time_lem : (apart n : ℕ) → pulse_time apart n ≡ n * apart
unfolding pulse_time
pulse_time_lem apart zero = omega arith
pulse_time_lem apart (suc n) = rw (suc-mul n apart, pulse_time_lem apart n)

pub pulses_last : (apart n : ℕ) → last_time (pulses apart n) ≡ pulse_time apart n
unfolding pulses pulse_time
pulses_last apart zero = refl
pulses_last apart (suc n) = refl

pulses_ordered : (apart n : ℕ) → NoLater (pulse_time apart n) (pulses apart n)
unfolding pulses pulse_time NoLater
pulses_ordered apart zero = (omega arith, tt)
pulses_ordered apart (suc n) =
    (omega arith, no_later_on (pulse_time apart n) (pulse_time apart n + apart) (pulses apart n) (omega arith) (pulses_ordered apart n))

-- A span that begins past a gap follows the last one.
join_apart : (S : List Span) (p s : Span) → touches p s ≡ false → join s (S ++ (p ∷ [])) ≡ S ++ (p ∷ s ∷ [])
unfolding join
join_apart [] p s gap = rw gap
join_apart (q ∷ []) p s gap = ap (λ (R : List Span). q ∷ R) (join_apart [] p s gap)
join_apart (q ∷ r ∷ S) p s gap = ap (λ (R : List Span). q ∷ R) (join_apart (r ∷ S) p s gap)

-- What one pulse more does to the runs of "once p".
pub pulse_runs : (a : ℕ) (b : End) → a ≤End b
    → (t time : ℕ) (h : History) (S : List Span)
    → t ≤ time
    → NoLater t h
    → Runs (Holds truth) (Holds (bit 0)) a b h t S
    → Runs (Holds truth) (Holds (bit 0)) a b (record { time = time; mask = 1 } ∷ h) time (update true true time (reached_from time a b) S)
unfolding holds?
pulse_runs a b order t time h S later none before =
    let e : Event = record { time = time; mask = 1 } in
    runs-event (Holds truth) (Holds (bit 0)) a b order e h (no_later_on t time h later none) true true t S
    (holds_told truth (e ∷ h)) (holds_told (bit 0) (e ∷ h)) later before

pub first_pulse : (a : ℕ) (b : End)
    → a ≤End b
    → Runs (Holds truth) (Holds (bit 0)) a b (record { time = 0; mask = 1 } ∷ []) 0 (reached_from 0 a b ∷ [])
unfolding update clip join NoLater
first_pulse a b order = pulse_runs a b order 0 0 [] [] (omega arith) tt (runs_none (Holds truth) (Holds (bit 0)) a b 0)

-- The spans after n + 1 pulses with a gap of one millisecond between their reaches: the first clipped at the newest pulse, the others whole.
module _ (a b : ℕ) (order : a ≤ b) where
  abbrev apart : ℕ
  apart = b - a + 2

  whole : ℕ → List Span
  whole zero = []
  whole (suc n) = whole n ++ (reached_from (pulse_time apart (suc n)) a (up_to b) ∷ [])

  filled : ℕ → List Span
  filled n = (max (pulse_time apart n) a to up_to b) ∷ whole n

  filled_length : (n : ℕ) → length (filled n) ≡ suc n
  unfolding filled whole
  filled_length zero = refl
  filled_length (suc n) = let before : length (whole n) ≡ n = omega (arith, filled_length n) in simp length-append (omega arith)

  clip_filled : (t n : ℕ) → pulse_time apart n ≤ t → t ≤ b → clip t (filled n) ≡ (max t a to up_to b) ∷ whole n
  unfolding filled clip
  clip_filled t n later within =
      let first : max t (max (pulse_time apart n) a) ≡ max t a = omega arith in rw (le-ltb b t within, first)

  -- A pulse later, the reach begins past a gap after the former reach.
  reaches-apart : (t first : ℕ) → touches (first to up_to (t + b)) (reached_from (t + apart) a (up_to b)) ≡ false
  reaches-apart t first = lt-leb (t + apart + a) (t + b + 1) (omega arith)

  filled_next : (n : ℕ)
      → pulse_time apart (suc n) ≤ b
      → update true true (pulse_time apart (suc n)) (reached_from (pulse_time apart (suc n)) a (up_to b)) (filled n) ≡ filled (suc n)
  unfolding filled whole update pulse_time
  filled_next zero within =
      let first = max (0 + apart) a in
      let gap : touches (first to up_to b) (reached_from (0 + apart) a (up_to b)) ≡ false = rw (zero-add b) at (reaches-apart 0 first) in
      rw (clip_filled (0 + apart) 0 (omega arith) within) (join_apart [] (first to up_to b) (reached_from (0 + apart) a (up_to b)) gap)
  filled_next (suc n) within =
      let t = pulse_time apart n + apart in
      rw (clip_filled (t + apart) (suc n) (omega arith) within, append_assoc)
      (join_apart ((max (t + apart) a to up_to b) ∷ whole n) (reached_from t a (up_to b)) (reached_from (t + apart) a (up_to b)) (reaches-apart t (t + a)))

  pulses_fill : (n : ℕ)
      → pulse_time apart n ≤ b
      → Runs (Holds truth) (Holds (bit 0)) a (up_to b) (pulses apart n) (pulse_time apart n) (filled n)
  unfolding pulses filled whole pulse_time
  pulses_fill zero within =
      let first : 0 + a ≡ max 0 a = omega arith in
      rw (first, zero-add b) at (first_pulse a (up_to b) order)
  pulses_fill (suc n) within =
      rw (filled_next n within) at
      (pulse_runs a (up_to b) order (pulse_time apart n) (pulse_time apart (suc n)) (pulses apart n) (filled n)
      (omega arith) (pulses_ordered apart n) (pulses_fill n (omega arith)))

-- The history that fills the figure: p at 0, d, 2d and so on up to b, where d is b-a+2; p at 0 for no end.
unfoldable pub filling : ℕ → End → History
filling a (up_to b) = pulses (b - a + 2) (b / (b - a + 2))
filling a no_end = pulses 0 0

-- For every a and b with a at most b, or b without end, the runs of "once p" over that history are as many as the figure.
pub figure_is_filled : (a : ℕ) (b : End)
    → a ≤End b
    → (S : List Span) × Runs (Holds truth) (Holds (bit 0)) a b (filling a b) (last_time (filling a b)) S × (length S ≡ figure a b)
unfolding figure filling pulses
figure_is_filled a (up_to b) order =
    let n = b / (b - a + 2) in
    let within : pulse_time (b - a + 2) n ≤ b = rw pulse_time_lem (div-mul-le_self b (b - a + 2)) in (
      filled a b order n,
      rw pulses_last (pulses_fill a b order n within),
      rw (filled_length a b order n, add-one),
    )
figure_is_filled a no_end order = (reached_from 0 a no_end ∷ [], first_pulse a no_end order, refl)
