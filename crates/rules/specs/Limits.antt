-- The numbers that bound a rule table (document 01, "The rule table" and "Spans, store and record"), each once. "No end" is `no_end_number`
-- of the meaning, and a bit of a rule is below its `heartbeat_bit`.
use Rattle.std.specs.Prelude.{ℕ}

-- "five per row: kind, x, y, a, b".
abbrev pub row_numbers : ℕ
row_numbers = 5

-- "Raise the row limit to 256" (document 02, E6): a table has 1 to so many rows.
abbrev pub row_limit : ℕ
row_limit = 256

-- "a is 0 to 86,400,000; b is a to 86,400,000".
abbrev pub longest : ℕ
longest = 86_400_000
