-- The numbers that document 01 marks P are right: each verdict by the computed truth, which tells the meaning; the one list of runs by two events.
use mathlib.Core.Bool.{not}
use mathlib.Core.List.{[], ◌∷◌}
use mathlib.Core.Path.{refl}
use native.Mathlib.Omega.{arith}
use Prim.Native.Nat.{ℕ, zero, suc, ◌<◌}
use lib.Dec.{T}
use lib.ListN.{drop}
use Rattle.meaning.specs.Interval.{up_to, no_end, Within}
use Rattle.meaning.specs.History.{Event, History, last_time}
use Rattle.meaning.specs.Formula.{Formula, truth, previous, since, once, Holds}
use Rattle.meaning.specs.Computed.{reached?, holds?}
use Rattle.meaning.specs.Spans.{◌to◌, clip, join, update}
use Rattle.meaning.specs.Runs.{Runs}
use Rattle.meaning.specs.Figure.{figure}
use Rattle.meaning.specs.FrameTime.{frame_time}
use Rattle.meaning.specs.Numbers.{AllRight, ◌and◌, all, numbers, p, q, with_p, with_q, twice5, nested}
use Rattle.meaning.specs.Numbers.{at99, at100, at200, at201, at1, at2, at3, at4, at5, at6}
use Rattle.meaning.proofs.Tells.{tells_not}
use Rattle.meaning.proofs.FormulaLaws.{holds_told}
use Rattle.meaning.proofs.HistoryLaws.{NoLater}
use Rattle.meaning.proofs.FigureLaws.{first_pulse, pulse_runs}

holds : (φ : Formula) (h : History) → T (holds? φ h) → Holds φ h
holds φ h = (holds_told φ h).sound

fails : (φ : Formula) (h : History) → T (not (holds? φ h)) → ¬ Holds φ h
fails φ h = (tells_not (holds_told φ h)).sound

one_span : Runs (Holds truth) (Holds p) 1 (up_to 1) (with_p 1 (with_p 0 [])) 1 ((1 to up_to 2) ∷ [])
unfolding clip join update NoLater
one_span = pulse_runs 1 (up_to 1) (omega arith) 0 1 (with_p 0 []) ((1 to up_to 1) ∷ []) (omega arith) (omega arith) (first_pulse 1 (up_to 1) (omega arith))

-- At the first event: y true there reaches that event itself, and no later from 1 ms on; there is no event before it.
first-since : (x y : Formula) (e : Event) → ¬ Holds x (e ∷ []) → Holds y (e ∷ []) → Holds (since x y 0 (up_to 5)) (e ∷ [])
unfolding Holds
first-since x y e x-false y-true =
    record { j = 0; known = omega arith; fed = y-true; apart = record { from = omega arith; to = omega arith }; kept = λ k below. absurd (omega arith) }

first_since_later : (x y : Formula) (e : Event) → ¬ Holds x (e ∷ []) → Holds y (e ∷ []) → ¬ Holds (since x y 1 (up_to 5)) (e ∷ [])
unfolding Holds
first_since_later x y e x-false y-true reached = too-early reached.j reached.known reached.apart
  where
    too-early : (j : ℕ) → j < 1 → ¬ Within 1 (up_to 5) (last_time (drop j (e ∷ []))) e.time
    too-early zero below within = absurd (omega (arith, within.from))
    too-early (suc j) below within = absurd (omega arith)

first-previous : (x : Formula) (e : Event) → ¬ Holds (previous x 0 no_end) (e ∷ [])
unfolding Holds
first-previous x e before = absurd (omega (arith, before.0))

pub numbers-right : AllRight numbers
unfolding holds? reached? figure frame_time
numbers-right =
    refl
    and refl
    and refl
    and refl
    and refl
    and refl
    and fails (once p 100 (up_to 200)) at99 tt
    and holds (once p 100 (up_to 200)) at100 tt
    and holds (once p 100 (up_to 200)) at200 tt
    and fails (once p 100 (up_to 200)) at201 tt
    and holds (since p q 0 (up_to 5)) (with_q 7 []) tt
    and fails (since p q 1 (up_to 5)) (with_q 7 []) tt
    and first-since
    and first_since_later
    and fails (previous truth 0 no_end) (with_p 7 []) tt
    and first-previous
    and holds (once p 0 (up_to 0)) twice5 tt
    and holds (previous p 0 (up_to 0)) twice5 tt
    and fails nested at1 tt
    and fails nested at2 tt
    and holds nested at3 tt
    and holds nested at4 tt
    and holds nested at5 tt
    and fails nested at6 tt
    and one_span
    and refl
    and refl
    and all
