-- The time of a frame as the code answers it (document 01, "Lines from the board"), for any clock at all.
use Rattle.std.specs.Prelude.{◌≡◌, ℕ, cond, nat_le, Result, Ok, Err}
use Rattle.meaning.specs.FrameTime.{frame_time}
use Rattle.refusals.specs.Refusals.{Refused, refused}
use Rattle.refusals.specs.declared.refusal.Refusal.{Refusal}
use Rattle.refusals.specs.declared.refusal.Refusal.TheVariants.{Late}
use Rattle.times.specs.Times.{time_limit}

-- "Asked for alone, with a last time over 281,474,976,710,655, the time is refused 6"; the last time is the clock.
pub data TimeReply : Type 0 where
  at : ℕ → TimeReply
  not_at : Refused → TimeReply

unfoldable pub frame_time_of : ℕ → ℕ → TimeReply
frame_time_of clock counter = cond (nat_le clock time_limit) (at (frame_time clock counter)) (not_at (refused Late))

abbrev pub said_time : Result ℕ Refusal → TimeReply
said_time (Ok time) = at time
said_time (Err fault) = not_at (refused fault)

-- What `frame_time` promises.
abbrev pub TimeGives : (clock counter : ℕ) → Result ℕ Refusal → Type 0
TimeGives clock counter answer = said_time answer ≡ frame_time_of clock counter

-- The time alone; of a clock over the limit, with which nothing is accepted, 0 stands in its place.
abbrev pub time_shown : (clock counter : ℕ) → ℕ
time_shown clock counter = cond (nat_le clock time_limit) (frame_time clock counter) 0
