-- How a row's spans are laid out in its stretch (document 01, "Spans, store and record"). No other definition says where a span lies.
use Rattle.std.specs.Prelude.{Bool, true, cond, ◌&&◌, List, [], ◌∷◌, ◌++◌, ◌≡◌, ℕ, zero, suc, ◌+◌, ◌*◌, ◌-◌, ◌/◌, ◌%◌, ◌<◌, leb, ltb, eqb, length, get_or, take, drop, replicate}
use Rattle.meaning.specs.Interval.{End, up_to, no_end}
use Rattle.meaning.specs.Spans.{Span, ◌to◌}
use Rattle.spans.specs.declared.stretch.Held.{Held}
use Rattle.spans.specs.declared.stretch.Span as Words

-- "two words (first, last) for each span".
abbrev pub span_words : ℕ
span_words = 2

-- "'no end' is stored as 18,446,744,073,709,551,615".
abbrev pub mark : ℕ
mark = 18_446_744_073_709_551_615

abbrev pub word_of : End → ℕ
word_of (up_to last) = last
word_of no_end = mark

unfoldable pub end_at : ℕ → End
end_at word = cond (eqb word mark) no_end (up_to word)

-- The span that two words say.
abbrev pub span_in : Words.Span → Span
span_in words = words.first to end_at words.last

-- The span that is read at a place of the stretch, then as many from a place on.
abbrev pub span_at : List ℕ → ℕ → Span
span_at words place = get_or words (span_words * place) 0 to end_at (get_or words (span_words * place + 1) 0)

unfoldable pub spans_from : List ℕ → ℕ → ℕ → List Span
spans_from words place zero = []
spans_from words place (suc count) = span_at words place ∷ spans_from words (suc place) count

-- "Let a stretch start anywhere and run round" (document 02, E9). How many places a stretch of so many words has; a number of words that leaves one over is
-- no stretch's, and has none.
unfoldable pub places_of : ℕ → ℕ
places_of size = cond (eqb (size % span_words) 0) (size / span_words) 0

-- The place that is so many after the first, round: the first one of all follows the last.
unfoldable pub place_at : (places first i : ℕ) → ℕ
place_at places first i = cond (ltb i (places - first)) (first + i) (i - (places - first))

-- The words as they are read from a place on, round; and the words that are so read.
unfoldable pub round_from : ℕ → List ℕ → List ℕ
round_from place words = drop (span_words * place) words ++ take (span_words * place) words

unfoldable pub laid_from : ℕ → List ℕ → List ℕ
laid_from place words = drop (length words - span_words * place) words ++ take (length words - span_words * place) words

-- "spans are read from the first place round".
abbrev pub spans_held : List ℕ → Held → List Span
spans_held words held = spans_from (round_from held.first words) 0 held.count

-- The words of a list of spans; then those of a whole stretch of a size: "unused words are 0".
unfoldable pub words_of : List Span → List ℕ
words_of [] = []
words_of ((first to last) ∷ S) = first ∷ word_of last ∷ words_of S

unfoldable pub packed : ℕ → List Span → List ℕ
packed size S = words_of S ++ replicate (size - span_words * length S) 0

-- The words of a stretch of a size, in which the spans S stand from a place on, round.
abbrev pub ring_of : (size first : ℕ) → List Span → List ℕ
ring_of size first S = laid_from first (packed size S)

-- The words of a stretch and what is held beside them are those of the spans S: "a first place inside the stretch, and 0 where there is no span or no
-- stretch".
pub record Laid (size : ℕ) (words : List ℕ) (held : Held) (S : List Span) : Type 0 where
  pub written : round_from held.first words ≡ packed size S
  pub counted : held.count ≡ length S
  pub unplaced : held.count ≡ 0 → held.first ≡ 0
  pub inside : 0 < held.count → held.first < places_of size

-- Words and what is held lay out some spans: those that are read from them.
abbrev pub Packed : List ℕ → Held → Type 0
Packed words held = Laid (length words) words held (spans_held words held)

-- The same computed: there is room for the spans held, the first place is right, and the words of free places are 0.
unfoldable pub zeros? : List ℕ → Bool
zeros? [] = true
zeros? (word ∷ words) = eqb word 0 && zeros? words

unfoldable pub placed? : ℕ → Held → Bool
placed? places held = cond (eqb held.count 0) (eqb held.first 0) (ltb held.first places)

abbrev pub laid? : List ℕ → Held → Bool
laid? words held =
    leb held.count (places_of (length words))
    && placed? (places_of (length words)) held
    && zeros? (drop (span_words * held.count) (round_from held.first words))

-- For any words at all: as many of the spans as the words have places for; the spans S written from the start, later words left as they are; the
-- words of so many spans freed, from the start or from a place on, round.
abbrev pub fitting : List ℕ → List Span → List Span
fitting words S = take (places_of (length words)) S

unfoldable pub spans_over : List ℕ → List Span → List ℕ
spans_over words S = words_of S ++ drop (span_words * length S) words

abbrev pub freed : ℕ → List ℕ → List ℕ
freed count words = replicate (span_words * count) 0 ++ drop (span_words * count) words

abbrev pub freed_from : (place count : ℕ) → List ℕ → List ℕ
freed_from place count words = laid_from place (freed count (round_from place words))
