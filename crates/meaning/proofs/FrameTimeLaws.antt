-- The time of a frame is the one time with its counter in the turn from the last time on, and so the true time (document 01, "Lines from the board").
use mathlib.Core.List.{List, [], ◌∷◌}
use mathlib.Core.Path.{◌≡◌, refl, sym}
use Prim.Native.Nat.{ℕ, ◌+◌, ◌≤◌, ◌<◌}
use native.Mathlib.Omega.{arith}
use Rattle.meaning.specs.FrameTime.{turn, counter_of, frame_time, Close, TrueTimes}

-- The time is not below the last time, it is less than a turn after it, and the counter is its low sixteen bits.
pub frame_time_is : (last counter : ℕ) → counter < turn
    → (last ≤ frame_time last counter) × (frame_time last counter < last + turn) × (counter_of (frame_time last counter) ≡ counter)
unfolding frame_time
frame_time_is last counter sixteen-bits = omega arith

-- It is the only such time.
pub frame_time_only : (last counter time : ℕ) → last ≤ time → time < last + turn → counter_of time ≡ counter → time ≡ frame_time last counter
unfolding frame_time
frame_time_only last counter time from to same = omega arith

-- "for the first, its counter".
pub first_frame_time : (counter : ℕ) → counter < turn → frame_time 0 counter ≡ counter
unfolding frame_time
first_frame_time counter sixteen-bits = omega arith

-- True times go on from 0.
pub true_close : (times : List ℕ) → TrueTimes times → Close 0 times
unfolding TrueTimes Close
true_close [] true-times = tt
true_close (time ∷ times) (first, close) = (omega arith, omega arith, close)

-- Where true times go on from the last time, the next frame has its true time.
pub next_true : (last time : ℕ) (times : List ℕ) → Close last (time ∷ times) → frame_time last (counter_of time) ≡ time
unfolding Close
next_true last time times (risen, gap, close) = sym (frame_time_only last (counter_of time) time risen (omega arith) refl)
