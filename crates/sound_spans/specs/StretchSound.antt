-- Whether a stretch is sound, computed in document 01's order. That the test tells exactly that is `stretch-told` in proofs/SoundTold.
use Rattle.std.specs.Prelude.{Bool, true, false, ◌&&◌, ◌||◌, List, [], ◌∷◌, ℕ, ◌+◌, ◌/◌, leb, length}
use Rattle.meaning.specs.Interval.{End, up_to, no_end}
use Rattle.meaning.specs.Spans.{Span, ◌to◌}
use Rattle.spans.specs.declared.stretch.Held.{Held}
use Rattle.spans.specs.Layout.{span_words, spans_from, spans_held, laid?}

-- The conditions on one span with an end, which may begin from a number on, in document 01's order.
unfoldable pub sound_span? : (from now latest long first last : ℕ) → Bool
sound_span? from now latest long first last =
    leb from first && leb first last && leb last latest && (leb first now || leb (first + long) last)

unfoldable pub sound_from? : (from now latest long : ℕ) → List Span → Bool
sound_from? from now latest long [] = true
sound_from? from now latest long ((first to up_to last) ∷ S) =
    sound_span? from now latest long first last && sound_from? (last + 2) now latest long S
sound_from? from now latest long ((first to no_end) ∷ S) = false

unfoldable pub sound_endless? : (now latest_first : ℕ) → List Span → Bool
sound_endless? now latest_first [] = true
sound_endless? now latest_first ((first to up_to last) ∷ S) = false
sound_endless? now latest_first ((first to no_end) ∷ []) = leb now first && leb first latest_first
sound_endless? now latest_first ((first to no_end) ∷ (another ∷ S)) = false

unfoldable pub sound_spans? : (now latest_first : ℕ) (latest_last : End) (long : ℕ) → List Span → Bool
sound_spans? now latest_first (up_to latest) long S = sound_from? now now latest long S
sound_spans? now latest_first no_end long S = sound_endless? now latest_first S

-- The spans that are held are sound, there is room for them, the first place is right, and the words of free places are 0.
unfoldable pub sound_stretch? : List ℕ → Held → (now latest_first : ℕ) (latest_last : End) (long : ℕ) → Bool
sound_stretch? words held now latest_first latest_last long =
    sound_spans? now latest_first latest_last long (spans_held words held) && laid? words held

-- The spans that words have from the start.
abbrev pub spans_straight : List ℕ → List Span
spans_straight words = spans_from words 0 (length words / span_words)
