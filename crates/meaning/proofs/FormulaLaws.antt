-- The computed truth tells the meaning; reached one event later; once and always in their plain meaning, and before the first event.
use mathlib.Core.Bool.{Bool}
use mathlib.Core.List.{[], ◌∷◌}
use mathlib.Core.Logic.{◌↔◌, ◌⊎◌, inl, inr, ⊎_elim}
use Prim.Native.Nat.{ℕ, zero, suc, ◌+◌, ◌<◌}
use native.Mathlib.Omega.{arith}
use lib.ListN.{length, drop}
use Rattle.meaning.specs.Interval.{End, up_to, no_end, ◌≤End◌, ◌+End◌, Within}
use Rattle.meaning.specs.History.{Event, History, last_time}
use Rattle.meaning.specs.Formula.{Formula, truth, bit, negation, both, either, previous, since, once, always, Reached, Holds}
use Rattle.meaning.specs.Computed.{not_past?, within?, reached?, holds?}
use Rattle.meaning.proofs.Tells.{Tells, tells_leb, tells_ltb, tells_eqb, tells_not, tells_and, tells_or, tells_same, tells_decided}

-- By arithmetic, so that an upper end that does not belong to its interval is refused here as a fact that is false.
pub tells_not_past : (n : ℕ) (end : End) → Tells (not_past? n end) (n ≤End end)
tells_not_past n (up_to m) = tells_same (λ low. omega arith) (λ low. omega arith) (tells_leb n m)
tells_not_past n no_end = record { sound = λ _. tt; complete = λ _. tt }

pub tells_within : (a : ℕ) (b : End) (s t : ℕ) → Tells (within? a b s t) (Within a b s t)
tells_within a b s t =
    tells_same
    (λ parts. record { from = parts.0; to = parts.1 })
    (λ w. (w.from, w.to))
    (tells_and (tells_leb (s + a) t) (tells_not_past t (s +End b)))

-- u is reached after one event more: y is true at it and u is in range of it, or x is true at it and u was reached before.
module _ (x y : History → Type 0) (a : ℕ) (b : End) (e : Event) (h : History) (u : ℕ) where
  -- `kept` is passed on by arithmetic too, so that a since that asks x from event j on is refused below, at a fact that is false.
  pub reached_later : Reached x y a b (e ∷ h) u → (y (e ∷ h) × Within a b e.time u) ⊎ (x (e ∷ h) × Reached x y a b h u)
  reached_later r = go r.j r.known r.fed r.apart (λ k below. r.kept k (omega arith))
    where
      go : (j : ℕ)
          → j < length (e ∷ h)
          → y (drop j (e ∷ h))
          → Within a b (last_time (drop j (e ∷ h))) u
          → ((k : ℕ) → k < j → x (drop k (e ∷ h)))
          → (y (e ∷ h) × Within a b e.time u) ⊎ (x (e ∷ h) × Reached x y a b h u)
      go zero known fed apart kept = inl (fed, apart)
      go (suc j) known fed apart kept =
          inr (
            kept zero (omega arith),
            record {
              j = j;
              known = omega arith;
              fed = fed;
              apart = apart;
              kept = λ k below. kept (suc k) (omega arith);
            },
          )

  pub reached_at_once : y (e ∷ h) → Within a b e.time u → Reached x y a b (e ∷ h) u
  reached_at_once fed apart =
      record {
        j = zero;
        known = omega arith;
        fed = fed;
        apart = apart;
        kept = λ k below. absurd (omega arith);
      }

  pub reached-before : x (e ∷ h) → Reached x y a b h u → Reached x y a b (e ∷ h) u
  reached-before now r =
      record {
        j = suc r.j;
        known = omega arith;
        fed = r.fed;
        apart = r.apart;
        kept = λ k below. go k (omega arith);
      }
    where
      go : (k : ℕ) → k < suc r.j → x (drop k (e ∷ h))
      go zero below = now
      go (suc k) below = r.kept k (omega arith)

-- Before the first event nothing is reached.
pub reached_never : (x y : History → Type 0) (a : ℕ) (b : End) (u : ℕ) → ¬ Reached x y a b [] u
reached_never x y a b u r = omega (arith, r.known)

tells_reached : (x y : History → Type 0) (x? y? : History → Bool)
    → ((h : History) → Tells (x? h) (x h))
    → ((h : History) → Tells (y? h) (y h))
    → (a : ℕ) (b : End) (h : History) (u : ℕ)
    → Tells (reached? x? y? a b h u) (Reached x y a b h u)
unfolding reached?
tells_reached x y x? y? tx ty a b [] u =
    record { sound = λ none. absurd none; complete = reached_never x y a b u }
tells_reached x y x? y? tx ty a b (e ∷ h) u =
    tells_same
    (⊎_elim (λ now. reached_at_once x y a b e h u now.0 now.1) (λ before. reached-before x y a b e h u before.0 before.1))
    (reached_later x y a b e h u)
    (tells_or
    (tells_and (ty (e ∷ h)) (tells_within a b e.time u))
    (tells_and (tx (e ∷ h)) (tells_reached x y x? y? tx ty a b h u)))

-- The computed truth tells what the formula means, for every formula and history.
pub holds_told : (φ : Formula) (h : History) → Tells (holds? φ h) (Holds φ h)
unfolding Holds holds?
holds_told truth h = record { sound = λ _. tt; complete = λ _. tt }
holds_told (bit x) h = tells_eqb _ 1
holds_told (negation x) h = tells_not (holds_told x h)
holds_told (both x y) h = tells_and (holds_told x h) (holds_told y h)
holds_told (either x y) h = tells_or (holds_told x h) (holds_told y h)
holds_told (previous x a b) h =
    tells_same
    (λ parts. (parts.0.0, parts.0.1, parts.1))
    (λ parts. ((parts.0, parts.1), parts.2))
    (tells_and (tells_and (tells_ltb 1 (length h)) (holds_told x (drop 1 h))) (tells_within a b (last_time (drop 1 h)) (last_time h)))
holds_told (since x y a b) h =
    tells_reached (Holds x) (Holds y) (holds? x) (holds? y) (holds_told x) (holds_told y) a b h (last_time h)

module _ (x : Formula) (a : ℕ) (b : End) (h : History) where
  -- Event j, counted back from the newest, is in range of the newest.
  abbrev pub Near : ℕ → Type 0
  Near j = (j < length h) × Within a b (last_time (drop j h)) (last_time h)

  -- Once x: some event in range has x.
  pub once_means : Holds (once x a b) h ↔ ((j : ℕ) × Near j × Holds x (drop j h))
  unfolding Holds
  once_means = (
    λ r. (r.j, (r.known, r.apart), r.fed),
    λ some. record { j = some.0; known = some.1.0; fed = some.2; apart = some.1.1; kept = λ _ _. tt },
  )

  -- Always x: every event in range has x.
  pub always_means : Holds (always x a b) h ↔ ((j : ℕ) → Near j → Holds x (drop j h))
  unfolding Holds
  always_means = (
    λ never j near.
        ⊎_elim
        (λ holds. holds)
        (λ fails. absurd (never (record { j = j; known = near.0; fed = fails; apart = near.1; kept = λ _ _. tt })))
        (tells_decided (holds_told x (drop j h))),
    λ all r. r.fed (all r.j (r.known, r.apart)),
  )

  -- Always x is true also where no event is in range.
  pub always_of_none : ((j : ℕ) → ¬ Near j) → Holds (always x a b) h
  always_of_none none = always_means.1 (λ j near. absurd (none j near))

-- "Before the first event there is nothing, so once is false and always is true."
pub once_before_first : (x : Formula) (a : ℕ) (b : End) → ¬ Holds (once x a b) []
unfolding Holds
once_before_first x a b = reached_never (Holds truth) (Holds x) a b 0

pub always_before_first : (x : Formula) (a : ℕ) (b : End) → Holds (always x a b) []
always_before_first x a b = always_of_none x a b [] (λ j near. omega arith)
