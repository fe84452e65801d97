-- The meaning with event numbers and the meaning over histories are the same.
-- Event j is k events back from event i where k + j is i: with k events dropped from the history at i, the history at j is left.
use mathlib.Core.List.{[], ◌∷◌}
use mathlib.Core.Logic.Iff
use mathlib.Core.Logic.{◌↔◌, ⊎_map}
use mathlib.Core.Path.{◌≡◌, refl, ap}
use Prim.Native.Nat.{ℕ, zero, suc, ◌+◌, ◌-◌, ◌<◌}
use native.Mathlib.Omega.{arith}
use lib.ListN.{length, drop}
use borrow.Author.Tests.{lt-ltb, le-ltb}
use Rattle.meaning.specs.Interval.{End, Within}
use Rattle.meaning.specs.History.{Event, History, last_time, last_mask}
use Rattle.meaning.specs.Formula.{Formula, truth, bit, negation, both, either, previous, since, Holds}
use Rattle.meaning.specs.Numbered.{HoldsAt, numbered}

-- The history at event i: events 0 to i, the newest first.
unfoldable pub past : (ℕ → Event) → ℕ → History
past at zero = at zero ∷ []
past at (suc i) = at (suc i) ∷ past at i

module _ (at : ℕ → Event) where
  past_length : (i : ℕ) → length (past at i) ≡ suc i
  unfolding past
  past_length zero = refl
  past_length (suc i) = ap suc (past_length i)

  past_newest : (i : ℕ) → (last_time (past at i) ≡ (at i).time) × (last_mask (past at i) ≡ (at i).mask)
  unfolding past
  past_newest zero = (refl, refl)
  past_newest (suc i) = (refl, refl)

  past_drop : (k j i : ℕ) → k + j ≡ i → drop k (past at i) ≡ past at j
  unfolding past
  past_drop zero j i back = let same : i ≡ j = omega arith in rw same
  past_drop (suc k) j zero back = absurd (omega arith)
  past_drop (suc k) j (suc i) back = past_drop k j i (omega arith)

  within_same : (a : ℕ) (b : End) (k j i : ℕ) → k + j ≡ i
      → Within a b (at j).time (at i).time ↔ Within a b (last_time (drop k (past at i))) (last_time (past at i))
  within_same a b k j i back = rw (past_drop k j i back, (past_newest j).0, (past_newest i).0) Iff.rfl

  -- What `numbered_same` says of one formula, at every event.
  abbrev Same : Formula → Type 0
  Same φ = (i : ℕ) → HoldsAt at φ i ↔ Holds φ (past at i)

  earlier_same : (φ : Formula) → Same φ → (k j i : ℕ) → k + j ≡ i → HoldsAt at φ j ↔ Holds φ (drop k (past at i))
  earlier_same φ same k j i back = rw (past_drop k j i back) (same j)

  bit_same : (x : ℕ) → Same (bit x)
  unfolding HoldsAt Holds
  bit_same x i = rw (past_newest i).1 Iff.rfl

  previous_same : (x : Formula) (a : ℕ) (b : End) → Same x → Same (previous x a b)
  unfolding HoldsAt Holds
  previous_same x a b same i = (to, from)
    where
      to : HoldsAt at (previous x a b) i → Holds (previous x a b) (past at i)
      to (j, next, held, within) =
          let back : 1 + j ≡ i = omega arith in
          (rw past_length (omega arith), (earlier_same x same 1 j i back).0 held, (within_same a b 1 j i back).0 within)

      from : Holds (previous x a b) (past at i) → HoldsAt at (previous x a b) i
      from (known, held, within) =
          let earlier : 1 < suc i = rw past_length at known in
          let back : 1 + (i - 1) ≡ i = omega arith in
          (i - 1, omega arith, (earlier_same x same 1 (i - 1) i back).1 held, (within_same a b 1 (i - 1) i back).1 within)

  since_same : (x y : Formula) (a : ℕ) (b : End) → Same x → Same y → Same (since x y a b)
  unfolding HoldsAt Holds
  since_same x y a b x-same y-same i = (to, from)
    where
      to : HoldsAt at (since x y a b) i → Holds (since x y a b) (past at i)
      to (j, before, fed, within, kept) =
          let back : i - j + j ≡ i = omega arith in
          record {
            j = i - j;
            known = rw past_length (omega arith);
            fed = (earlier_same y y-same (i - j) j i back).0 fed;
            apart = (within_same a b (i - j) j i back).0 within;
            kept = λ k later. (earlier_same x x-same k (i - k) i (omega arith)).0 (kept (i - k) (omega arith) (omega arith));
          }

      from : Holds (since x y a b) (past at i) → HoldsAt at (since x y a b) i
      from reached =
          let k = reached.j in
          let known : k < suc i = rw past_length at reached.known in
          let back : k + (i - k) ≡ i = omega arith in (
            i - k,
            omega arith,
            (earlier_same y y-same k (i - k) i back).1 reached.fed,
            (within_same a b k (i - k) i back).1 reached.apart,
            λ j after before. (earlier_same x x-same (i - j) j i (omega arith)).1 (reached.kept (i - j) (omega arith)),
          )

-- At event i of any stream of events, a formula holds exactly when it holds of the history at event i.
pub numbered_same : (at : ℕ → Event) (φ : Formula) (i : ℕ) → HoldsAt at φ i ↔ Holds φ (past at i)
unfolding HoldsAt Holds
numbered_same at truth i = Iff.rfl
numbered_same at (bit x) i = bit_same at x i
numbered_same at (negation x) i = Iff.not (numbered_same at x i)
numbered_same at (both x y) i = Iff.and (numbered_same at x i) (numbered_same at y i)
numbered_same at (either x y) i =
    let (x-to, x-from) = numbered_same at x i in
    let (y-to, y-from) = numbered_same at y i in
    (⊎_map x-to y-to, ⊎_map x-from y-from)
numbered_same at (previous x a b) i = previous_same at x a b (numbered_same at x) i
numbered_same at (since x y a b) i = since_same at x y a b (numbered_same at x) (numbered_same at y) i

-- The newest event changes nothing in the histories at the events before it.
past_older : (e : Event) (h : History) (i : ℕ) → i < length h → past (numbered (e ∷ h)) i ≡ past (numbered h) i
unfolding past numbered
past_older e h zero known = rw (lt-ltb 0 (length h) known)
past_older e h (suc i) known = rw (lt-ltb (suc i) (length h) known, past_older e h i (omega arith))

-- Every history with an event is the history at its newest event's number.
pub past-numbered : (e : Event) (h : History) → past (numbered (e ∷ h)) (length h) ≡ e ∷ h
unfolding past numbered
past-numbered e [] = refl
past-numbered e (d ∷ h) =
    rw (le-ltb (length (d ∷ h)) (length (d ∷ h)) (omega arith), past_older e (d ∷ h) (length h) (omega arith), past-numbered d h)

-- At event i of a history, a formula holds exactly when it holds of what was known at that event.
pub numbered_of_history : (φ : Formula) (h : History) (i : ℕ) → i < length h → HoldsAt (numbered h) φ i ↔ Holds φ (drop (length h - suc i) h)
numbered_of_history φ [] i known = absurd (omega arith)
numbered_of_history φ (e ∷ h) i known =
    let events = numbered (e ∷ h) in
    rw past-numbered at (earlier_same events φ (numbered_same events φ) (suc (length h) - suc i) i (length h) (omega arith))

-- At the newest event of a history, a formula holds exactly when it holds of the history.
pub numbered_newest : (φ : Formula) (e : Event) (h : History) → HoldsAt (numbered (e ∷ h)) φ (length h) ↔ Holds φ (e ∷ h)
numbered_newest φ e h = rw past-numbered at (numbered_same (numbered (e ∷ h)) φ (length h))
