-- The same meaning with event numbers i and j, counted from 0 at the oldest event, as the rows of document 01's table read.
use Rattle.std.specs.Prelude.{cond, [], ◌∷◌, ◌≡◌, ◌⊎◌, ℕ, suc, ◌<◌, ◌≤◌, ltb, length}
use Rattle.meaning.specs.Interval.{Within}
use Rattle.meaning.specs.History.{Event, History, BitSet}
use Rattle.meaning.specs.Formula.{Formula, truth, bit, negation, both, either, previous, since}

-- The formula is true at event i, where `at` gives the event of each number.
unfoldable pub HoldsAt : (ℕ → Event) → Formula → ℕ → Type 0
HoldsAt at truth i = Unit
HoldsAt at (bit x) i = BitSet x (at i).mask
HoldsAt at (negation x) i = ¬ HoldsAt at x i
HoldsAt at (both x y) i = HoldsAt at x i × HoldsAt at y i
HoldsAt at (either x y) i = HoldsAt at x i ⊎ HoldsAt at y i
HoldsAt at (previous x a b) i =
    (j : ℕ) × (suc j ≡ i) × HoldsAt at x j × Within a b (at j).time (at i).time
HoldsAt at (since x y a b) i =
    (j : ℕ)
    × (j ≤ i)
    × HoldsAt at y j
    × Within a b (at j).time (at i).time
    × ((k : ℕ) → j < k → k ≤ i → HoldsAt at x k)

-- The events of a history by number; past the newest, the newest again.
unfoldable pub numbered : History → ℕ → Event
numbered [] i = record { time = 0; mask = 0 }
numbered (e ∷ h) i = cond (ltb i (length h)) (numbered h i) e
