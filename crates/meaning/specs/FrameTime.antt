-- The time of a frame (document 01, "Lines from the board").
use Rattle.std.specs.Prelude.{List, [], ◌∷◌, ℕ, ◌+◌, ◌-◌, ◌%◌, ◌≤◌, ◌<◌}

-- The board's counter has sixteen bits: it is the true time modulo 65,536.
abbrev pub turn : ℕ
turn = 65_536

abbrev pub counter_of : ℕ → ℕ
counter_of time = time % turn

-- "time = last + ((counter - last) modulo 65,536)": last is the clock ("line times compare with the clock", document 02, E2), 0 before any. A turn is
-- added so that the difference is not below 0.
unfoldable pub frame_time : ℕ → ℕ → ℕ
frame_time last counter = last + (counter + turn - last % turn) % turn

-- Demand 2: "these never fall, the first is below 65,536 ms and no gap between accepted frames exceeds 65,535 ms".
unfoldable pub Close : ℕ → List ℕ → Type 0
Close last [] = Unit
Close last (time ∷ times) = (last ≤ time) × (time - last < turn) × Close time times

unfoldable pub TrueTimes : List ℕ → Type 0
TrueTimes [] = Unit
TrueTimes (time ∷ times) = (time < turn) × Close time times
