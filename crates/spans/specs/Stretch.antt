-- What the operations on a stretch compute beside document 01's own list operations, which are `clip`, `join` and `update` of crate `meaning`.
use Rattle.std.specs.Prelude.{Bool, false, cond, ◌&&◌, ◌||◌, List, [], ◌∷◌, ◌≡◌, ℕ, suc, ◌-◌, ◌*◌, ◌≤◌, max, leb, ltb, eqb, length, get_or, set}
use Rattle.meaning.specs.Computed.{not_past?}
use Rattle.meaning.specs.Spans.{Span, ◌to◌, ended, clip, join, update}
use Rattle.spans.specs.declared.stretch.Held.{Held}
use Rattle.spans.specs.declared.stretch.Updated.{Updated}
use Rattle.spans.specs.Layout.{span_words, places_of, place_at, round_from, spans_held, fitting, spans_over, freed_from}

-- The time lies in a span, to which its first and its last belong.
abbrev pub span_covers : ℕ → Span → Bool
span_covers now (first to last) = leb first now && not_past? now last

-- "The row is true at t exactly when t lies in a span."
unfoldable pub covered : ℕ → List Span → Bool
covered now [] = false
covered now (span ∷ S) = span_covers now span || covered now S

-- "Spans are clipped and in order, so the first one tells" (document 02, E3): whether the time lies in the first span, of any spans at all. That it tells
-- whether the time lies in a span, where they rise from it, is `first_tells` in proofs/CoverLaws.
unfoldable pub first_covers : ℕ → List Span → Bool
first_covers now [] = false
first_covers now (span ∷ S) = span_covers now span

-- How many spans a clip drops from the front.
unfoldable pub ended_count : ℕ → List Span → ℕ
ended_count now [] = 0
ended_count now ((first to last) ∷ S) = cond (ended now last) (suc (ended_count now S)) 0

-- What is found in any words: what is held, where they have such places, otherwise no span. In a sound stretch they have.
unfoldable pub held_found : List ℕ → Held → Held
held_found words held =
    cond (ltb held.first (places_of (length words)) && leb held.count (places_of (length words))) held (record { first = 0; count = 0 })

abbrev pub spans_in : List ℕ → Held → List Span
spans_in words held = spans_held words (held_found words held)

-- The spans after one event's update of those held: as many as have room. In a sound stretch all have.
abbrev pub spans_updated : List ℕ → Held → (x y : Bool) → ℕ → Span → List Span
spans_updated words held x y t s = fitting words (update x y t s (spans_held words held))

-- An update's two halves: the spans held are clipped, or all dropped unless x; then the span is joined in if y, as many as have room.
abbrev pub kept_of : (x : Bool) → ℕ → List Span → List Span
kept_of x t S = cond x (clip t S) []

abbrev pub spans_fed : List ℕ → Held → (y : Bool) → Span → List Span
spans_fed words held y s = fitting words (cond y (join s (spans_held words held)) (spans_held words held))

-- "a first place per row, which goes one on (round) for each span dropped by time, and is 0 when the row holds no span, also in the middle of a step after
-- all were dropped or cleared" (document 02, E9): where so many of the spans held are left.
unfoldable pub first_left : (places : ℕ) → Held → (left : ℕ) → ℕ
first_left places held left = cond (eqb left 0) 0 (place_at places held.first (held.count - left))

-- The first word of the first span is raised to the time, where a span is held that begins earlier.
abbrev pub first_raised : (time : ℕ) → List ℕ → Held → List ℕ
first_raised time words held =
    cond (eqb held.count 0) words
    (set words (span_words * place_at (places_of (length words)) held.first 0)
    (max time (get_or words (span_words * place_at (places_of (length words)) held.first 0) 0)))

-- The places of what is held are in the words.
abbrev pub Inside : List ℕ → Held → Type 0
Inside words held = (held.first ≤ places_of (length words)) × (held.count ≤ places_of (length words))

-- The spans S written over words from the start, and so many counted; the same from the first place of what is held on, round.
pub record Overwrites (words after : List ℕ) (count : ℕ) (S : List Span) : Type 0 where
  pub written : after ≡ spans_over words S
  pub counted : count ≡ length S

abbrev pub SpansWritten : (words after : List ℕ) → Held → List Span → Type 0
SpansWritten words after held S = Overwrites (round_from held.first words) (round_from held.first after) held.count S

-- Of the spans held K are left: the words of the spans held are freed, those of K are written, every other word stays.
pub record SpansKept (words : List ℕ) (held : Held) (after : List ℕ) (left : Held) (K : List Span) : Type 0 where
  pub spans : SpansWritten (freed_from held.first held.count words) after left K
  pub placed : left.first ≡ first_left (places_of (length words)) held (length K)

-- After an update: the words of the spans held are freed, those of the spans after it are written, every other word stays; the answer tells how many they
-- are, the first place of those that were kept, and whether the time lies in the first.
pub record SpansUpdated (words : List ℕ) (held : Held) (x y : Bool) (time : ℕ) (s : Span) (after : List ℕ) (updated : Updated) : Type 0 where
  pub spans : SpansWritten
      (freed_from held.first held.count words)
      after
      updated.held
      (spans_updated words held x y time s)
  pub placed : updated.held.first ≡ first_left (places_of (length words)) held (length (kept_of x time (spans_held words held)))
  pub told : updated.covered ≡ first_covers time (spans_updated words held x y time s)

-- After time alone, and after an update, of what is found in any words.
abbrev pub ClippedTo : (words : List ℕ) → Held → (after : List ℕ) → Held → (time : ℕ) → Type 0
ClippedTo words held after left time = SpansKept words (held_found words held) after left (clip time (spans_in words held))

abbrev pub UpdatedTo : (words : List ℕ) → Held → (x y : Bool) → (time : ℕ) → Span → (after : List ℕ) → Updated → Type 0
UpdatedTo words held x y time s after updated = SpansUpdated words (held_found words held) x y time s after updated
