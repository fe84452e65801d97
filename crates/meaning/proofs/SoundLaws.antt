-- No spans are sound. A sound list rises. Runs are sound: they meet document 01's conditions on a stretch. And what a sound list leaves room for.
use mathlib.Core.List.{List, [], ◌∷◌}
use mathlib.Core.Logic.{◌↔◌, inl, inr, ⊎_elim}
use mathlib.Core.Path.{◌≡◌, subst, subst⁻¹}
use Prim.Native.Nat.{ℕ, ◌+◌, ◌-◌, ◌≤◌, ◌<◌, max}
use native.Mathlib.Omega.{arith}
use lib.ListN.{drop}
use Rattle.meaning.specs.Interval.{End, up_to, no_end, ◌≤End◌, ◌+End◌, Within}
use Rattle.meaning.specs.History.{History, last_time}
use Rattle.meaning.specs.Formula.{Reached}
use Rattle.meaning.specs.Spans.{Span, ◌to◌, In, Rising}
use Rattle.meaning.specs.Runs.{Runs}
use Rattle.meaning.specs.Sound.{SoundFrom, SoundEndless, SoundSpans, length_of}
use Rattle.meaning.proofs.HistoryLaws.{NoLater, no_later_at}
use Rattle.meaning.proofs.SpansLaws.{le_or_lt, in_least, end_trans, gap_out, in_rest, rising_from_first, Under}

pub none-sound : (now latest_first : ℕ) (latest_last : End) (long : ℕ) → SoundSpans now latest_first latest_last long []
unfolding SoundSpans SoundFrom SoundEndless
none-sound now latest_first (up_to latest) long = tt
none-sound now latest_first no_end long = tt

-- A sound list rises with gaps.
from-rising : (from now latest long : ℕ) (S : List Span) → SoundFrom from now latest long S → Rising from S
unfolding SoundFrom Rising
from-rising from now latest long [] sound = tt
from-rising from now latest long ((first to up_to last) ∷ S) sound =
    (sound.0, sound.1, from-rising (last + 2) now latest long S sound.4)
from-rising from now latest long ((first to no_end) ∷ S) sound = absurd sound

pub sound-rising : (now latest_first : ℕ) (latest_last : End) (long : ℕ) (S : List Span)
    → SoundSpans now latest_first latest_last long S
    → Rising now S
unfolding SoundSpans SoundEndless Rising
sound-rising now latest_first (up_to latest) long S sound = from-rising now now latest long S sound
sound-rising now latest_first no_end long [] sound = tt
sound-rising now latest_first no_end long ((first to up_to last) ∷ S) sound = absurd sound
sound-rising now latest_first no_end long ((first to no_end) ∷ S) sound = (sound.0, sound.2)

-- Where u comes from: a time s, not later than the newest event's, in range of u, with all that is in range of s.
record Source (a : ℕ) (b : End) (newest : ℕ) (R : ℕ → Type 0) (u : ℕ) : Type 0 where
  s : ℕ
  seen : s ≤ newest
  near : Within a b s u
  all : (v : ℕ) → Within a b s v → R v

reached_source : (x y : History → Type 0) (a : ℕ) (b : End) (h : History) (newest u : ℕ)
    → NoLater newest h
    → Reached x y a b h u
    → Source a b newest (Reached x y a b h) u
reached_source x y a b h newest u none r =
    record {
      s = last_time (drop r.j h);
      seen = no_later_at newest h r.j none r.known;
      near = r.apart;
      all = λ v w. record { j = r.j; known = r.known; fed = r.fed; apart = w; kept = r.kept };
    }

-- The spans from `from` on hold exactly what R has from there on; what lies just before `from`, after the present, is not in R.
record Exactly (t : ℕ) (R : ℕ → Type 0) (from : ℕ) (S : List Span) : Type 0 where
  rising : Rising from S
  exact : (u : ℕ) → In u S ↔ ((from ≤ u) × R u)
  fresh : (g : ℕ) → t ≤ g → g + 1 ≡ from → ¬ R g

module _ (R : ℕ → Type 0) (t newest a : ℕ) (b : End) (source : (u : ℕ) → R u → Source a b newest R u) where
  -- A span that begins after the present begins where its source begins to reach.
  first_of_run : (from first : ℕ) (end : End) (S : List Span)
      → Exactly t R from ((first to end) ∷ S)
      → from ≤ first
      → t < first
      → (r : R first)
      → first ≡ (source first r).s + a
  first_of_run from first end S run low after r =
      let origin : Source a b newest R first = source first r in
      let reaches : origin.s + a ≤ first = origin.near.from in
      ⊎_elim
      (λ begins. omega arith)
      (λ later.
      let near : first - 1 ≤End (origin.s +End b) = end_trans (first - 1) first (origin.s +End b) (omega arith) origin.near.to in
      let earlier : R (first - 1) = origin.all (first - 1) (record { from = omega arith; to = near }) in
      absurd
      (⊎_elim
      (λ inside.
      let below : first ≤ first - 1 =
      in_least first ((first to end) ∷ S) (first - 1) (rising_from_first from first end S run.rising)
      ((run.exact (first - 1)).1 (inside, earlier))
      in
      omega arith)
      (λ outside. run.fresh (first - 1) (omega arith) (omega arith) earlier)
      (le_or_lt from (first - 1))))
      (le_or_lt first (origin.s + a))

  -- The number after the last of a span is not in R.
  after_run : (from first last : ℕ) (S : List Span) → Exactly t R from ((first to up_to last) ∷ S) → from ≤ last → ¬ R (last + 1)
  after_run from first last S run low r = gap_out from first last S run.rising ((run.exact (last + 1)).1 (omega arith, r))

  -- What is left after the first span.
  rest_exactly : (from first last : ℕ) (S : List Span) → Exactly t R from ((first to up_to last) ∷ S) → Exactly t R (last + 2) S
  unfolding In Rising
  rest_exactly from first last S run =
      let rises : (from ≤ first) × (first ≤ last) × Rising (last + 2) S = run.rising in
      record {
        rising = rises.2;
        exact = λ u. (
          λ inside. (in_least (last + 2) S u rises.2 inside, ((run.exact u).0 (inr inside)).1),
          λ both. in_rest u first last S (omega arith) ((run.exact u).1 (omega arith, both.1)),
        );
        fresh = λ g present next r.
            let same : g ≡ last + 1 = omega arith in after_run from first last S run (omega arith) (subst R same r);
      }

-- "each last is at most t+b ..; a span whose first is above t has last-first at least b-a"
module _ (R : ℕ → Type 0) (t newest a b : ℕ) (order : a ≤ b) (source : (u : ℕ) → R u → Source a (up_to b) newest R u) where
  runs_sound_from : (from : ℕ) (S : List Span) → Exactly t R from S → SoundFrom from t (newest + b) (b - a) S
  unfolding In Rising SoundFrom
  runs_sound_from from [] run = tt
  runs_sound_from from ((first to up_to last) ∷ S) run =
      let rises : (from ≤ first) × (first ≤ last) × Rising (last + 2) S = run.rising in
      let begins : R first = ((run.exact first).0 (inl (omega arith))).1 in
      let lasts : R last = ((run.exact last).0 (inl (omega arith))).1 in
      let seen : (source last lasts).s ≤ newest = (source last lasts).seen in
      let near : last ≤ (source last lasts).s + b = (source last lasts).near.to in (
        rises.0,
        rises.1,
        omega arith,
        λ after.
            let origin : Source a (up_to b) newest R first = source first begins in
            let start : first ≡ origin.s + a = first_of_run R t newest a (up_to b) source from first (up_to last) S run rises.0 after begins in
            ⊎_elim
            (λ whole. omega arith)
            (λ cut.
            absurd
            (after_run R t newest a (up_to b) source from first last S run (omega arith)
            (origin.all (last + 1) (record { from = omega arith; to = omega arith }))))
            (le_or_lt (origin.s + b) last),
        runs_sound_from (last + 2) S (rest_exactly R t newest a (up_to b) source from first last S run),
      )
  runs_sound_from from ((first to no_end) ∷ S) run =
      let far : ℕ = first + newest + b + 1 in
      let reached : R far = ((run.exact far).0 (inl (omega arith, tt))).1 in
      let seen : (source far reached).s ≤ newest = (source far reached).seen in
      let near : far ≤ (source far reached).s + b = (source far reached).near.to in
      omega arith

-- "for 'no end': at most one span, first from t to t+a"
module _ (R : ℕ → Type 0) (t newest a : ℕ) (source : (u : ℕ) → R u → Source a no_end newest R u) where
  runs_sound_endless : (S : List Span) → Exactly t R t S → SoundEndless t (max t (newest + a)) S
  unfolding In Rising SoundEndless
  runs_sound_endless [] run = tt
  runs_sound_endless ((first to up_to last) ∷ S) run =
      let rises : (t ≤ first) × (first ≤ last) × Rising (last + 2) S = run.rising in
      let lasts : R last = ((run.exact last).0 (inl (omega arith))).1 in
      let near : (source last lasts).s + a ≤ last = (source last lasts).near.from in
      after_run R t newest a no_end source t first last S run (omega arith)
      ((source last lasts).all (last + 1) (record { from = omega arith; to = tt }))
  runs_sound_endless ((first to no_end) ∷ S) run =
      let rises : (t ≤ first) × (S ≡ []) = run.rising in
      let begins : R first = ((run.exact first).0 (inl (omega arith, tt))).1 in
      let seen : (source first begins).s ≤ newest = (source first begins).seen in (
        rises.0,
        ⊎_elim
            (λ present. omega arith)
            (λ after.
            let start : first ≡ (source first begins).s + a =
            first_of_run R t newest a no_end source t first no_end S run rises.0 after begins
            in
            omega arith)
            (le_or_lt first t),
        rises.1,
      )

-- The runs at time t of a history with no event later than `newest` meet document 01's conditions on a stretch; where the newest event is at t
-- these are t, t+a and t+b.
pub runs-sound : (x y : History → Type 0) (a : ℕ) (b : End) (h : History) (t newest : ℕ) (S : List Span)
    → a ≤End b
    → NoLater newest h
    → Runs x y a b h t S
    → SoundSpans t (max t (newest + a)) (newest +End b) (length_of a b) S
unfolding SoundSpans
runs-sound x y a b h t newest S order none runs = go b order runs
  where
    exactly : (end : End) → Runs x y a end h t S → Exactly t (Reached x y a end h) t S
    exactly end run = record { rising = run.rising; exact = run.exact; fresh = λ g present next r. omega arith }

    go : (end : End) → a ≤End end → Runs x y a end h t S → SoundSpans t (max t (newest + a)) (newest +End end) (length_of a end) S
    go (up_to last) within run =
        runs_sound_from (Reached x y a (up_to last) h) t newest a last within
        (λ u. reached_source x y a (up_to last) h newest u none) t S (exactly (up_to last) run)
    go no_end within run =
        runs_sound_endless (Reached x y a no_end h) t newest a
        (λ u. reached_source x y a no_end h newest u none) S (exactly no_end run)

-- In a sound list no span begins after the present and t+a, or lasts past t+b: a span from t+a to t+b can be joined at its end.
sound_from_under : (from now latest long next : ℕ) (S : List Span)
    → now ≤ next
    → latest ≤ next + long
    → SoundFrom from now latest long S
    → Under next (up_to latest) S
unfolding SoundFrom Under
sound_from_under from now latest long next [] present room sound = tt
sound_from_under from now latest long next ((first to up_to last) ∷ S) present room sound = (
  ⊎_elim
      (λ early. omega arith)
      (λ after. let whole : first + long ≤ last = sound.3 after in omega arith)
      (le_or_lt first now),
  sound.2,
  sound_from_under (last + 2) now latest long next S present room sound.4,
)
sound_from_under from now latest long next ((first to no_end) ∷ S) present room sound = absurd sound

pub sound_under : (t a : ℕ) (b : End) (S : List Span)
    → a ≤End b
    → SoundSpans t (max t (t + a)) (t +End b) (length_of a b) S
    → Under (t + a) (t +End b) S
unfolding SoundSpans SoundEndless Under
sound_under t a (up_to b) S order sound = sound_from_under t t (t + b) (b - a) (t + a) S (omega arith) (omega arith) sound
sound_under t a no_end [] order sound = tt
sound_under t a no_end ((first to up_to last) ∷ S) order sound = absurd sound
sound_under t a no_end ((first to no_end) ∷ S) order sound = (omega arith, tt, subst⁻¹ (Under (t + a) no_end) sound.2 tt)
