-- What one event does to a row's spans, as sets: the members are those kept from t on, while x is true, and those that y reaches at t. And a sound
-- list meets what this asks of it.
use mathlib.Core.Bool.{Bool, true, false, cond}
use mathlib.Core.List.{List, []}
use mathlib.Core.Logic.{◌↔◌, ◌⊎◌, inl, inr, ⊎_elim}
use Prim.Native.Nat.{ℕ, ◌+◌, ◌≤◌, max}
use native.Mathlib.Omega.{arith}
use lib.Dec.{T}
use Rattle.meaning.specs.Interval.{End, ◌≤End◌, ◌+End◌, Within}
use Rattle.meaning.specs.Spans.{Span, In, Rising, reached_from, clip, update}
use Rattle.meaning.specs.Sound.{SoundSpans, length_of}
use Rattle.meaning.proofs.SpansLaws.{clip_in_lem, Under, join_in}
use Rattle.meaning.proofs.SoundLaws.{sound_under}
use Rattle.meaning.proofs.SoundKept.{sound-kept}

-- An update at t of a rising list, which once clipped leaves room at its end for t+a to t+b.
module _ (least t a : ℕ) (b : End) (S : List Span) (rises : Rising least S) (under : Under (t + a) (t +End b) (clip t S)) where
  -- What is left of the list.
  abbrev left : Bool → List Span
  left x = cond x (clip t S) []

  left_under : (x : Bool) → Under (t + a) (t +End b) (left x)
  unfolding Under
  left_under true = under
  left_under false = tt

  left_in : (x : Bool) (u : ℕ) → In u (left x) ↔ (T x × (t ≤ u) × In u S)
  unfolding In
  left_in true u =
      let still = clip_in_lem least t S u rises in
      (λ inside. (tt, (still.0 inside).0, (still.0 inside).1), λ all. still.1 (all.1, all.2))
  left_in false u = (λ none. absurd none, λ all. absurd all.0)

  pub update_in_lem : (x y : Bool) (u : ℕ) → In u (update x y t (reached_from t a b) S) ↔ ((T x × (t ≤ u) × In u S) ⊎ (T y × Within a b t u))
  unfolding update
  update_in_lem x true u =
      let joined = join_in (t + a) (t +End b) (left x) u (left_under x) in (
        λ inside.
            ⊎_elim
            (λ old. inl ((left_in x u).0 old))
            (λ new. inr (tt, record { from = new.0; to = new.1 }))
            (joined.0 inside),
        ⊎_elim (λ old. joined.1 (inl ((left_in x u).1 old))) (λ new. joined.1 (inr (new.1.from, new.1.to))),
      )
  update_in_lem x false u =
      (λ inside. inl ((left_in x u).0 inside), ⊎_elim (λ old. (left_in x u).1 old) (λ new. absurd new.0))

-- A list that was sound at `now` leaves room at its end, once clipped at t.
pub clipped_under : (now t event a : ℕ) (b : End) (S : List Span)
    → a ≤End b
    → now ≤ t
    → event ≤ t
    → SoundSpans now (max now (event + a)) (event +End b) (length_of a b) S
    → Under (t + a) (t +End b) (clip t S)
unfolding update
clipped_under now t event a b S order present seen sound =
    sound_under t a b (clip t S) order
    (sound-kept true false now t event a (max now (event + a)) (max t (t + a)) b S order present seen (omega arith) (omega arith) sound)
