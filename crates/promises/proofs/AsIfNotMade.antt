-- A refused attempt leaves the state as it was, so it can be left out.
use mathlib.Core.Bool.{false}
use mathlib.Core.List.{List}
use mathlib.Core.Path.{◌≡◌, refl, ap}
use lib.ListN.{take, take-append-drop}
use Prim.Native.Nat.{ℕ}
use native.Mathlib.Omega.{arith}
use Rattle.monitor.specs.Step.{Reply, verdict, clock_moved, refusal}
use Rattle.promises.specs.Stream.{State, accepted?}
use Rattle.promises.specs.AsIfNotMade.{Attempt, attempt, leaves, attempts, AsIfNotMade}
use Rattle.promises.proofs.LeftOut.{left_out}
use Rattle.promises.proofs.Refusing.{refusal_changes_nothing}

pub refused-leaves : (s : State) (t : Attempt) → accepted? (attempt s t).reply ≡ false → leaves s t ≡ s
refused-leaves s t h = go (attempt s t).reply refl h
  where
    go : (reply : Reply) → (attempt s t).reply ≡ reply → accepted? reply ≡ false → leaves s t ≡ s
    go (verdict holds) e unjudged = let clash : ◌≡◌ {A = ℕ} 0 1 = cc in absurd (omega arith)
    go clock_moved e unjudged = let clash : ◌≡◌ {A = ℕ} 0 1 = cc in absurd (omega arith)
    go (refusal fault) e unjudged =
        let same = refusal_changes_nothing.call t.setup (take t.size s.store) s.found t.made fault e in
        rw (same.0, same.1)
        (ap (λ (words : List ℕ). record { found = s.found; store = words }) (take-append-drop t.size s.store))

pub as_if_not_made : AsIfNotMade
as_if_not_made = left_out attempts refused-leaves
