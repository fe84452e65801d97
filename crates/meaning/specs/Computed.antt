-- The truth of a formula, computed. That it tells what `Holds` says, in both directions, is `holds_told` in proofs/FormulaLaws.
use Rattle.std.specs.Prelude.{Bool, true, false, not, ◌&&◌, ◌||◌, [], ◌∷◌, ℕ, ◌+◌, ◌/◌, ◌%◌, ◌^◌, leb, ltb, eqb, length, drop}
use Rattle.meaning.specs.Interval.{End, up_to, no_end, ◌+End◌}
use Rattle.meaning.specs.History.{History, last_time, last_mask}
use Rattle.meaning.specs.Formula.{Formula, truth, bit, negation, both, either, previous, since}

abbrev pub not_past? : ℕ → End → Bool
not_past? n (up_to m) = leb n m
not_past? n no_end = true

abbrev pub within? : ℕ → End → ℕ → ℕ → Bool
within? a b s t = leb (s + a) t && not_past? t (s +End b)

abbrev pub bit_set? : ℕ → ℕ → Bool
bit_set? x mask = eqb (mask / 2 ^ x % 2) 1

-- Going back from the newest event: y there and in range, or x there and reached before.
unfoldable pub reached? : (x y : History → Bool) → ℕ → End → History → ℕ → Bool
reached? x y a b [] u = false
reached? x y a b (e ∷ h) u = (y (e ∷ h) && within? a b e.time u) || (x (e ∷ h) && reached? x y a b h u)

unfoldable pub holds? : Formula → History → Bool
holds? truth h = true
holds? (bit x) h = bit_set? x (last_mask h)
holds? (negation x) h = not (holds? x h)
holds? (both x y) h = holds? x h && holds? y h
holds? (either x y) h = holds? x h || holds? y h
holds? (previous x a b) h = ltb 1 (length h) && holds? x (drop 1 h) && within? a b (last_time (drop 1 h)) (last_time h)
holds? (since x y a b) h = reached? (holds? x) (holds? y) a b h (last_time h)
