-- Spans of milliseconds and lists of them, and what one event does to a row's list (document 01, "Spans, store and record").
use Rattle.std.specs.Prelude.{Bool, false, true, cond, List, [], ◌∷◌, ◌⊎◌, ◌≡◌, ℕ, ◌+◌, ◌≤◌, max, leb, ltb}
use Rattle.meaning.specs.Interval.{End, up_to, no_end, ◌≤End◌, ◌+End◌}

-- A span has a first number and a last one, or no end. Both belong to it.
infix 40 ◌to◌
pub data Span : Type 0 where
  ◌to◌ : ℕ → End → Span

-- The number lies in a span of the list.
unfoldable pub In : ℕ → List Span → Type 0
In u [] = ⊥
In u ((first to last) ∷ S) = ((first ≤ u) × (u ≤End last)) ⊎ In u S

-- The spans rise from a least first. Demand 3: "rising, a gap between each two"; "Runs that touch (last+1 = next first) are one span."
unfoldable pub Rising : ℕ → List Span → Type 0
Rising least [] = Unit
Rising least ((first to up_to last) ∷ S) = (least ≤ first) × (first ≤ last) × Rising (last + 2) S
Rising least ((first to no_end) ∷ S) = (least ≤ first) × (S ≡ [])

-- The span that an event at t reaches: "t+a to t+b".
abbrev pub reached_from : ℕ → ℕ → End → Span
reached_from t a b = (t + a) to (t +End b)

-- "clipped at t and ended ones dropped". In a rising list the ended spans come first, and only the first that is left can begin before t.
abbrev pub ended : ℕ → End → Bool
ended t (up_to last) = ltb last t
ended t no_end = false

unfoldable pub clip : ℕ → List Span → List Span
clip t [] = []
clip t ((first to last) ∷ S) = cond (ended t last) (clip t S) ((max t first to last) ∷ S)

-- "joined in": the last span is extended where the two touch or overlap, otherwise the new one follows it.
abbrev pub touches : Span → Span → Bool
touches (first to up_to last) (next to end) = leb next (last + 1)
touches (first to no_end) (next to end) = true

abbrev pub extended : Span → Span → Span
extended (first to last) (next to end) = first to end

unfoldable pub join : Span → List Span → List Span
join s [] = s ∷ []
join s (p ∷ []) = cond (touches p s) (extended p s ∷ []) (p ∷ s ∷ [])
join s (p ∷ q ∷ S) = p ∷ join s (q ∷ S)

-- "a since row's spans are clipped at t and ended ones dropped, then all dropped if x is now false, then t+a to t+b is joined in if y is true."
unfoldable pub update : (x y : Bool) → ℕ → Span → List Span → List Span
update x y t s S = cond y (join s (cond x (clip t S) [])) (cond x (clip t S) [])
