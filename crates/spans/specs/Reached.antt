-- The last millisecond that an event reaches, as the code computes it, for any time at all.
use Rattle.std.specs.Prelude.{cond, ℕ, leb}
use Rattle.meaning.specs.Interval.{End, up_to, end_of, ◌+End◌}
use Rattle.times.specs.Times.{time_limit}

-- "t+b"; of a time over the limit, at which nothing is accepted, 0 stands in its place.
unfoldable pub last_reached : ℕ → ℕ → End
last_reached time b = cond (leb time time_limit) (time +End end_of b) (up_to 0)
