-- The numbers that document 01 marks P ("Numbers to check against"), in its order, each as a statement about the meaning itself.
-- That all of them are right is `numbers-right` in proofs/NumbersRight.
use Rattle.std.specs.Prelude.{List, [], ◌∷◌, ◌≡◌, ℕ}
use Rattle.meaning.specs.Interval.{up_to, no_end}
use Rattle.meaning.specs.History.{Event, History}
use Rattle.meaning.specs.Formula.{Formula, truth, bit, either, previous, since, once, Holds}
use Rattle.meaning.specs.Spans.{◌to◌}
use Rattle.meaning.specs.Runs.{Runs}
use Rattle.meaning.specs.Figure.{figure}
use Rattle.meaning.specs.FrameTime.{frame_time}

-- Every statement of the list is right.
infixr 20 ◌and◌
pub data AllRight : List (Type 0) → Type 1 where
  all : AllRight []
  ◌and◌ : {statement : Type 0} {others : List (Type 0)} → statement → AllRight others → AllRight (statement ∷ others)

-- The history h, then an event: at a time, with p alone, with q alone, with neither.
abbrev pub then : ℕ → ℕ → History → History
then mask time h = record { time = time; mask = mask } ∷ h

abbrev pub neither : ℕ → History → History
neither = then 0

abbrev pub with_p : ℕ → History → History
with_p = then 1

abbrev pub with_q : ℕ → History → History
with_q = then 2

abbrev pub p : Formula
p = bit 0

abbrev pub q : Formula
q = bit 1

-- "p only at 0, events at 99, 100, 200, 201": the history at each of the four.
abbrev pub at99 : History
at99 = neither 99 (with_p 0 [])

abbrev pub at100 : History
at100 = neither 100 at99

abbrev pub at200 : History
at200 = neither 200 at100

abbrev pub at201 : History
at201 = neither 201 at200

-- "events at 5 with p and 5 without": the history at the second.
abbrev pub twice5 : History
twice5 = neither 5 (with_p 5 [])

-- "once [1,2] of once [1,2] of (p or q), events at 1 to 6, p at 1, q at 5": the formula, and the history at each event.
abbrev pub nested : Formula
nested = once (once (either p q) 1 (up_to 2)) 1 (up_to 2)

abbrev pub at1 : History
at1 = with_p 1 []

abbrev pub at2 : History
at2 = neither 2 at1

abbrev pub at3 : History
at3 = neither 3 at2

abbrev pub at4 : History
at4 = neither 4 at3

abbrev pub at5 : History
at5 = with_q 5 at4

abbrev pub at6 : History
at6 = neither 6 at5

abbrev pub numbers : List (Type 0)
numbers =
    -- "spans for [0,0] 1; [0,20] 1; [20,20] 11; [100,200] 2; [600,600] 301; [1000, no end] 1"
    (figure 0 (up_to 0) ≡ 1)
    ∷ (figure 0 (up_to 20) ≡ 1)
    ∷ (figure 20 (up_to 20) ≡ 11)
    ∷ (figure 100 (up_to 200) ≡ 2)
    ∷ (figure 600 (up_to 600) ≡ 301)
    ∷ (figure 1000 no_end ≡ 1)
    -- "once [100,200] p, p only at 0, events at 99, 100, 200, 201: no, yes, yes, no"
    ∷ (¬ Holds (once p 100 (up_to 200)) at99)
    ∷ Holds (once p 100 (up_to 200)) at100
    ∷ Holds (once p 100 (up_to 200)) at200
    ∷ (¬ Holds (once p 100 (up_to 200)) at201)
    -- "first event, x false, y true: since [0,5] yes, [1,5] no"; x is p and y is q
    ∷ Holds (since p q 0 (up_to 5)) (with_q 7 [])
    ∷ (¬ Holds (since p q 1 (up_to 5)) (with_q 7 []))
    -- the same for every x, y and event
    ∷ ((x y : Formula) (e : Event) → ¬ Holds x (e ∷ []) → Holds y (e ∷ []) → Holds (since x y 0 (up_to 5)) (e ∷ []))
    ∷ ((x y : Formula) (e : Event) → ¬ Holds x (e ∷ []) → Holds y (e ∷ []) → ¬ Holds (since x y 1 (up_to 5)) (e ∷ []))
    -- "previous [0, no end] at the first event: no", and for every x and event
    ∷ (¬ Holds (previous truth 0 no_end) (with_p 7 []))
    ∷ ((x : Formula) (e : Event) → ¬ Holds (previous x 0 no_end) (e ∷ []))
    -- "events at 5 with p and 5 without: at the second, once [0,0] p yes, previous [0,0] p yes"
    ∷ Holds (once p 0 (up_to 0)) twice5
    ∷ Holds (previous p 0 (up_to 0)) twice5
    -- "once [1,2] of once [1,2] of (p or q), events at 1 to 6, p at 1, q at 5: no no yes yes yes no"
    ∷ (¬ Holds nested at1)
    ∷ (¬ Holds nested at2)
    ∷ Holds nested at3
    ∷ Holds nested at4
    ∷ Holds nested at5
    ∷ (¬ Holds nested at6)
    -- "once [1,1] p, p at 0 and 1: after 1, one span 1 to 2"
    ∷ Runs (Holds truth) (Holds p) 1 (up_to 1) (with_p 1 (with_p 0 [])) 1 ((1 to up_to 2) ∷ [])
    -- "last 65,530, counter 0004: time 65,540. Same counter again: 65,540"
    ∷ (frame_time 65_530 4 ≡ 65_540)
    ∷ (frame_time 65_540 4 ≡ 65_540)
    ∷ []
