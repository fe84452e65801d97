-- When the spans of a stretch are sound (document 01, "Spans, store and record", the last two points of its list). That "unused words are 0" is said
-- where spans are laid out in words (`Laid`). What t is, by document 02, E2: the clock is `now`; from the last event's time follow the latest last and, for
-- "no end", the latest first.
use Rattle.std.specs.Prelude.{List, [], ◌∷◌, ◌≡◌, ℕ, ◌+◌, ◌-◌, ◌≤◌, ◌<◌}
use Rattle.meaning.specs.Interval.{End, up_to, no_end}
use Rattle.meaning.specs.Spans.{Span, ◌to◌}

-- "first ≤ last; each first is at least t; each later first is at least the former last + 2; each last is at most t+b if b has an end;
-- a span whose first is above t has last-first at least b-a". From is t for the first span, then the former last + 2.
unfoldable pub SoundFrom : (from now latest long : ℕ) → List Span → Type 0
SoundFrom from now latest long [] = Unit
SoundFrom from now latest long ((first to up_to last) ∷ S) =
    (from ≤ first)
    × (first ≤ last)
    × (last ≤ latest)
    × (now < first → first + long ≤ last)
    × SoundFrom (last + 2) now latest long S
SoundFrom from now latest long ((first to no_end) ∷ S) = ⊥

-- "for 'no end': at most one span, first from t to t+a, last the stored mark".
unfoldable pub SoundEndless : (now latest_first : ℕ) → List Span → Type 0
SoundEndless now latest_first [] = Unit
SoundEndless now latest_first ((first to up_to last) ∷ S) = ⊥
SoundEndless now latest_first ((first to no_end) ∷ S) = (now ≤ first) × (first ≤ latest_first) × (S ≡ [])

-- The two over what they depend on: the present, the latest first of a span without end, the latest last, the least length.
unfoldable pub SoundSpans : (now latest_first : ℕ) (latest_last : End) (long : ℕ) → List Span → Type 0
SoundSpans now latest_first (up_to latest) long S = SoundFrom now now latest long S
SoundSpans now latest_first no_end long S = SoundEndless now latest_first S

-- "b-a"; a span without end has no least length.
abbrev pub length_of : ℕ → End → ℕ
length_of a (up_to b) = b - a
length_of a no_end = 0
