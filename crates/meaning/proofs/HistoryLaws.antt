-- Histories in which no event is later than a given time.
use mathlib.Core.List.{[], ◌∷◌}
use Prim.Native.Nat.{ℕ, zero, suc, ◌≤◌, ◌<◌}
use native.Mathlib.Nat.{le_of_suc-le-suc, not-suc-le-zero}
use native.Mathlib.Omega.{arith}
use lib.ListN.{length, drop}
use Rattle.meaning.specs.History.{History, last_time}

unfoldable pub NoLater : ℕ → History → Type 0
NoLater t [] = Unit
NoLater t (e ∷ h) = (e.time ≤ t) × NoLater t h

pub no_later_at : (t : ℕ) (h : History) (j : ℕ) → NoLater t h → j < length h → last_time (drop j h) ≤ t
unfolding NoLater
no_later_at t [] j none known = absurd (not-suc-le-zero known)
no_later_at t (e ∷ h) zero none known = none.0
no_later_at t (e ∷ h) (suc j) none known = no_later_at t h j none.1 (le_of_suc-le-suc known)

pub no_later_on : (t t' : ℕ) (h : History) → t ≤ t' → NoLater t h → NoLater t' h
unfolding NoLater
no_later_on t t' [] on none = tt
no_later_on t t' (e ∷ h) on none = (omega arith, no_later_on t t' h on none.1)
