-- The truths, the span counts and the first places after the rows below n: each row's is set once, at its own turn, and is as found until then.
use mathlib.Core.List.{List}
use mathlib.Core.Logic.{⊎_elim}
use mathlib.Core.Path.{◌≡◌, refl}
use Prim.Native.Nat.{ℕ, zero, suc, ◌≤◌, ◌<◌}
use native.Mathlib.Nat.{eq-or-lt_of_le, le_of_suc-le-suc}
use native.Mathlib.Omega.{arith}
use lib.ListN.{length, get_or, set, length-set}
use lib.Seq.{get_or-set_same, get_or-set_other}
use Rattle.row_list.specs.Truths.{byte_of, truth_at}
use Rattle.monitor.specs.Event.{Moment, truth_of, truths_after, entries_with}
use Rattle.row_list.proofs.TruthsLaws.{byte_back}

-- Lists that are made by setting the entry of each row in turn.
module _ {A : Type 0} (made : ℕ → List A) (entry : ℕ → A) (next : (n : ℕ) → made (suc n) ≡ set (made n) n (entry n)) where
  rising_length : (n : ℕ) → length (made n) ≡ length (made zero)
  rising_length zero = refl
  rising_length (suc n) = rw (next n, length-set) (rising_length n)

  -- A row's entry is set at its turn and stays.
  rising-at : (other : A) (n r : ℕ) → r < n → r < length (made zero) → get_or (made n) r other ≡ entry r
  rising-at other zero r done inside = absurd (omega arith)
  rising-at other (suc n) r done inside =
      let same : length (made n) ≡ length (made zero) = rising_length n in
      rw (next n)
      (⊎_elim
      (λ e. rw e (get_or-set_same (made n) n (entry n) other (omega arith)))
      (λ before. rw (get_or-set_other (made n) n r (entry n) other (λ e. omega arith)) (rising-at other n r before inside))
      (eq-or-lt_of_le (le_of_suc-le-suc done)))

  -- Until then it is as found.
  rising_later : (other : A) (n r : ℕ) → n ≤ r → get_or (made n) r other ≡ get_or (made zero) r other
  rising_later other zero r later = refl
  rising_later other (suc n) r later =
      rw (next n, get_or-set_other (made n) n r (entry n) other (λ e. omega arith)) (rising_later other n r (omega arith))

-- The truths after the rows below n.
module _ (m : Moment) where
  -- The byte that a row's truth becomes.
  abbrev byte : ℕ → ℕ
  byte row = byte_of (truth_of m row (truths_after m row))

  truths-next : (n : ℕ) → truths_after m (suc n) ≡ set (truths_after m n) n (byte n)
  unfolding truths_after
  truths-next n = refl

  pub length_truths : (n : ℕ) → length (truths_after m n) ≡ length m.found.truths
  unfolding truths_after
  length_truths n = rising_length (truths_after m) byte truths-next n

  pub truth_set : (n r : ℕ) → r < n → r < length m.found.truths → get_or (truths_after m n) r 0 ≡ byte_of (truth_of m r (truths_after m r))
  unfolding truths_after
  truth_set n r done inside = rising-at (truths_after m) byte truths-next 0 n r done inside

  pub truth-told : (n r : ℕ) → r < n → r < length m.found.truths → truth_at (truths_after m n) r ≡ truth_of m r (truths_after m r)
  truth-told n r done inside = rw (truth_set n r done inside) (byte_back (truth_of m r (truths_after m r)))

  pub truth-left : (n r : ℕ) → n ≤ r → get_or (truths_after m n) r 0 ≡ get_or m.found.truths r 0
  unfolding truths_after
  truth-left n r later = rising_later (truths_after m) byte truths-next 0 n r later

-- The entries that each row has of its ring: its span count, and its first place.
module _ (entry : ℕ → ℕ) (found : List ℕ) where
  entries_next : (n : ℕ) → entries_with entry found (suc n) ≡ set (entries_with entry found n) n (entry n)
  unfolding entries_with
  entries_next n = refl

  pub length_entries : (n : ℕ) → length (entries_with entry found n) ≡ length found
  unfolding entries_with
  length_entries n = rising_length (entries_with entry found) entry entries_next n

  pub entry_set : (n r : ℕ) → r < n → r < length found → get_or (entries_with entry found n) r 0 ≡ entry r
  unfolding entries_with
  entry_set n r done inside = rising-at (entries_with entry found) entry entries_next 0 n r done inside

  pub entry_left : (n r : ℕ) → n ≤ r → get_or (entries_with entry found n) r 0 ≡ get_or found r 0
  unfolding entries_with
  entry_left n r later = rising_later (entries_with entry found) entry entries_next 0 n r later
